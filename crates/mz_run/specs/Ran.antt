-- What the runs of a job leave, one after another.
use Rattle.std.specs.Prelude.{◌≡◌, ◌-◌, ◌<◌, ◌≤◌, ℕ, if◌then◌else◌, nat_lt, slice_index, List, [], ◌∷◌, ◌++◌, length, Option, Some, None}
use Rattle.mz_shelf.specs.State.{State}
use Rattle.mz_shelf.specs.Chain.{DidAll}
use Rattle.mz_shelf.specs.Performed.{Stopped}
use Rattle.mz_shelf.specs.declared.stop.Stop.{Stop}
use Rattle.mz_shelf.specs.declared.stop.Stop.TheVariants.{NoMemory}
use Rattle.mz_model.specs.Plans.{IsLegalPlan}
use Rattle.mz_model.specs.Scores.{score_of_plan}
use Rattle.mz_delta.specs.Reading.{totals_of_plan}
use Rattle.mz_sums.specs.Best.{best_of}
use Rattle.mz_sums.specs.Sums.{sums_of}
use Rattle.mz_run.specs.declared.job.Job.{Job}
use Rattle.mz_files.specs.declared.trail.RunTrail.{RunTrail}
use Rattle.mz_run.specs.declared.runs.BestRun.{BestRun}
use Rattle.mz_run.specs.declared.counted.Counted.{Counted}
use Rattle.mz_run.specs.Acts.{acts_of_trails, plan_of_run, plans_of, run_acts, summary_row, summary_rows, totals_of_runs}
use Rattle.mz_run.specs.Best.{Best}
use Rattle.mz_run.specs.Run.{final_plan}
use Rattle.mz_run.specs.Trail.{AreTrails, IsTrail}

-- a run that is kept, without its plan
abbrev pub best_in : BestRun → Best
best_in kept = record { run = kept.run; total = kept.score.total }

-- the run that is kept of two
abbrev pub better_run : Option BestRun → BestRun → BestRun
better_run None last = last
better_run (Some kept) last = if nat_lt last.score.total kept.score.total then last else kept

-- the best of these runs is kept with its plan
pub record IsBestRun (job : Job) (trails : List RunTrail) (kept : BestRun) : Type 0 where
  pub best : best_of (totals_of_runs trails) ≡ Some (kept.run - 1)
  pub total : slice_index (totals_of_runs trails) (kept.run - 1) ≡ kept.score.total
  pub from_one : 1 ≤ kept.run
  pub within : kept.run ≤ length trails
  pub plan_is : kept.plan ≡ plan_of_run job trails kept.run
  pub legal : IsLegalPlan job.problem kept.plan
  pub totals_are : kept.totals.items ≡ totals_of_plan job.problem kept.plan
  pub score_is : kept.score ≡ score_of_plan job.problem kept.plan

abbrev pub KeepsBest : Job → List RunTrail → Option BestRun → Type 0
KeepsBest job trails None = trails ≡ []
KeepsBest job trails (Some kept) = IsBestRun job trails kept

-- what is counted over these runs: a summary row for each, and how many of their plans give each unit each zone
pub record HasCounted (job : Job) (trails : List RunTrail) (counted : Counted) : Type 0 where
  pub rows : counted.rows.items ≡ summary_rows job trails
  pub summed : counted.summed ≡ sums_of job.problem (plans_of job trails)

-- a run more is counted
pub record CountsMore (job : Job) (trail : RunTrail) (old new : Counted) : Type 0 where
  pub rows : new.rows.items ≡ old.rows.items ++ summary_row job trail ∷ []
  pub summed : (plans : List (List ℕ)) → old.summed ≡ sums_of job.problem plans
      → new.summed ≡ sums_of job.problem (plans ++ final_plan job trail.run trail.turns ∷ [])

-- one run more: its trail stands behind the others, its acts were done, and this is the run with its last plan
pub record RanOnce (job : Job) (run : ℕ) (before after : List RunTrail) (counted more : Counted)
    (old new : State) (last : BestRun) : Type 0 where
  pub trail : RunTrail
  pub counts : CountsMore job trail counted more
  pub kept : after ≡ before ++ trail ∷ []
  pub is_trail : IsTrail job run trail
  pub acts : DidAll (run_acts job trail) old new
  pub run_is : last.run ≡ run
  pub score_is : last.score ≡ trail.score
  pub plan_is : last.plan ≡ final_plan job run trail.turns
  pub totals_are : last.totals.items ≡ totals_of_plan job.problem last.plan

-- a run that stopped: memory ended it before it had a trail, or it has one and its acts stopped
pub data RunStopped (job : Job) (run : ℕ) (before after : List RunTrail) (old new : State) (stop : Stop) : Type 0 where
  no_trail : stop ≡ NoMemory → after ≡ before → new ≡ old → RunStopped job run before after old new stop
  in_acts : (trail : RunTrail) → after ≡ before ++ trail ∷ [] → IsTrail job run trail
      → Stopped (run_acts job trail) old new stop
      → RunStopped job run before after old new stop

-- the first runs were done
pub record RanFirst (job : Job) (count : ℕ) (trails : List RunTrail) (counted : Counted)
    (old new : State) (kept : Option BestRun) : Type 0 where
  pub runs : AreTrails job trails
  pub counts : HasCounted job trails counted
  pub whole : length trails ≡ count
  pub acts : DidAll (acts_of_trails job trails) old new
  pub best : KeepsBest job trails kept

-- the runs stopped: memory ended them between two, or one stopped in its acts
pub data StopsIn (job : Job) (trails : List RunTrail) (old new : State) (stop : Stop) : Type 0 where
  between_runs : stop ≡ NoMemory → DidAll (acts_of_trails job trails) old new → StopsIn job trails old new stop
  in_one : (earlier : List RunTrail) (trail : RunTrail) (between : State)
      → trails ≡ earlier ++ trail ∷ [] → length earlier < job.params.reps
      → DidAll (acts_of_trails job earlier) old between → Stopped (run_acts job trail) between new stop
      → StopsIn job trails old new stop

pub record RunsStopped (job : Job) (trails : List RunTrail) (old new : State) (stop : Stop) : Type 0 where
  pub runs : AreTrails job trails
  pub few : length trails ≤ job.params.reps
  pub ends : StopsIn job trails old new stop
