-- The acts behind the last run, one stage after another.
use Rattle.std.proofs.Common.{ℕ, List, [], ◌∷◌, ◌++◌, Result}
use Rattle.std.specs.Prelude.{codes}
use Rattle.mz_shelf.specs.State.{State}
use Rattle.mz_shelf.specs.Act.{Act}
use Rattle.mz_shelf.specs.Act.Act.{Say}
use Rattle.mz_shelf.specs.Chain.{DidAll}
use Rattle.mz_shelf.specs.Performed.{Performed, Stopped}
use Rattle.mz_shelf.specs.declared.stop.Stop.{Stop}
use Rattle.mz_shelf.specs.declared.stop.Stop.TheVariants.{NoMemory}
use Rattle.mz_shelf.proofs.PerformedLemmas.{stopped_first, stopped_later, stopped_here, performed_later}
use Rattle.mz_files.specs.declared.trail.RunTrail.{RunTrail}
use Rattle.mz_run.specs.declared.job.Job.{Job}
use Rattle.mz_run.specs.Acts.{all_runs_acts, best_acts, plan_acts, summary_acts, summed_acts, turns_acts}
use Rattle.mz_run.specs.Best.{Best}
use Rattle.mz_run.specs.Lines.{closing_text}

-- the best run's files stopped
pub best_stops : (job : Job) (trails : List RunTrail) (reports : List ℕ) (best : Best) (plan : List ℕ) (old new : State) (stop : Stop) → Stopped (plan_acts job job.params.save_best (codes "_best") (codes "_mvbest") plan) old new stop
    → Stopped (best_acts job trails reports best plan) old new stop
best_stops job trails reports best plan old new stop h = stopped_first (plan_acts job job.params.save_best (codes "_best") (codes "_mvbest") plan) (all_runs_acts job trails reports best) old new stop h

-- and what follows them
pub best_goes_on : {X : Type 0} (job : Job) (trails : List RunTrail) (reports : List ℕ) (best : Best) (plan : List ℕ) (old between new : State) (r : Result X Stop) → DidAll (plan_acts job job.params.save_best (codes "_best") (codes "_mvbest") plan) old between
    → Performed (all_runs_acts job trails reports best) between new r → Performed (best_acts job trails reports best plan) old new r
best_goes_on job trails reports best plan old between new r did h =
    performed_later (plan_acts job job.params.save_best (codes "_best") (codes "_mvbest") plan) (all_runs_acts job trails reports best) old between new r did h

-- four stages, of which one stopped or all were done
first_stops : (a b c d : List Act) (old new : State) (stop : Stop) → Stopped a old new stop → Stopped (a ++ (b ++ (c ++ d))) old new stop
first_stops a b c d old new stop h = stopped_first a (b ++ (c ++ d)) old new stop h

second_stops : (a b c d : List Act) (old one new : State) (stop : Stop) → DidAll a old one → Stopped b one new stop → Stopped (a ++ (b ++ (c ++ d))) old new stop
second_stops a b c d old one new stop first h = stopped_later a (b ++ (c ++ d)) old one new stop first (stopped_first b (c ++ d) one new stop h)

third_stops : (a b c d : List Act) (old one two new : State) (stop : Stop) → DidAll a old one → DidAll b one two → Stopped c two new stop → Stopped (a ++ (b ++ (c ++ d))) old new stop
third_stops a b c d old one two new stop first second h =
    stopped_later a (b ++ (c ++ d)) old one new stop first (stopped_later b (c ++ d) one two new stop second (stopped_first c d two new stop h))

last_waits : (a b c d : List Act) (old one two new : State) → DidAll a old one → DidAll b one two → DidAll c two new → Stopped (a ++ (b ++ (c ++ d))) old new NoMemory
last_waits a b c d old one two new first second third =
    stopped_later a (b ++ (c ++ d)) old one new NoMemory first (stopped_later b (c ++ d) one two new NoMemory second (stopped_here c d two new third))

all_done : {X : Type 0} (a b c d : List Act) (old one two three new : State) (r : Result X Stop) → DidAll a old one → DidAll b one two → DidAll c two three → Performed d three new r → Performed (a ++ (b ++ (c ++ d))) old new r
all_done a b c d old one two three new r first second third h =
    performed_later a (b ++ (c ++ d)) old one new r first (performed_later b (c ++ d) one two new r second (performed_later c d two three new r third h))

abbrev said_last : Job → List ℕ → Best → List Act
said_last job reports best = Say (closing_text job best reports) ∷ []

-- the files of all runs, and the closing line
pub summary_stops : (job : Job) (trails : List RunTrail) (reports : List ℕ) (best : Best) (old new : State) (stop : Stop) → Stopped (summary_acts job trails) old new stop → Stopped (all_runs_acts job trails reports best) old new stop
summary_stops job trails reports best old new stop h = first_stops (summary_acts job trails) (summed_acts job trails) (turns_acts job trails) (said_last job reports best) old new stop h

pub summed_stops : (job : Job) (trails : List RunTrail) (reports : List ℕ) (best : Best) (old one new : State) (stop : Stop) → DidAll (summary_acts job trails) old one → Stopped (summed_acts job trails) one new stop → Stopped (all_runs_acts job trails reports best) old new stop
summed_stops job trails reports best old one new stop first h = second_stops (summary_acts job trails) (summed_acts job trails) (turns_acts job trails) (said_last job reports best) old one new stop first h

pub turns_stop : (job : Job) (trails : List RunTrail) (reports : List ℕ) (best : Best) (old one two new : State) (stop : Stop) → DidAll (summary_acts job trails) old one → DidAll (summed_acts job trails) one two → Stopped (turns_acts job trails) two new stop
    → Stopped (all_runs_acts job trails reports best) old new stop
turns_stop job trails reports best old one two new stop first second h = third_stops (summary_acts job trails) (summed_acts job trails) (turns_acts job trails) (said_last job reports best) old one two new stop first second h

pub line_waits : (job : Job) (trails : List RunTrail) (reports : List ℕ) (best : Best) (old one two new : State) → DidAll (summary_acts job trails) old one → DidAll (summed_acts job trails) one two → DidAll (turns_acts job trails) two new
    → Stopped (all_runs_acts job trails reports best) old new NoMemory
line_waits job trails reports best old one two new first second third = last_waits (summary_acts job trails) (summed_acts job trails) (turns_acts job trails) (said_last job reports best) old one two new first second third

pub line_said : {X : Type 0} (job : Job) (trails : List RunTrail) (reports : List ℕ) (best : Best) (old one two three new : State) (r : Result X Stop) → DidAll (summary_acts job trails) old one → DidAll (summed_acts job trails) one two → DidAll (turns_acts job trails) two three
    → Performed (Say (closing_text job best reports) ∷ []) three new r → Performed (all_runs_acts job trails reports best) old new r
line_said job trails reports best old one two three new r first second third h = all_done (summary_acts job trails) (summed_acts job trails) (turns_acts job trails) (said_last job reports best) old one two three new r first second third h
