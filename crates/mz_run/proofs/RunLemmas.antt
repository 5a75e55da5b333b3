-- Runs one after another, and the best of them.
use Rattle.std.proofs.Common.{◌≡◌, ℕ, suc, ◌+◌, ◌-◌, ◌<◌, ◌≤◌, Bool, true, false, cond, get_or, List, [], ◌∷◌, ◌++◌, length, map, Option, Some, None, refl, sym, ap, subst, ◌∙◌, arith, length-append, append-nil}
use Rattle.std.specs.Prelude.{nat_lt, if◌then◌else◌, slice_index}
use Rattle.std.proofs.lemmas.Bool.{ltb-false, ltb-true}
use Rattle.std.proofs.Math.Nat.{add-zero}
use Rattle.std.proofs.Math.Seq.{get_or-append_seam}
use Rattle.std.proofs.lemmas.List.{get_or_append_left, length-map, map-append}
use Rattle.std.proofs.lemmas.Grind.{flat_map-append}
use Rattle.std.specs.List.{All}
use Rattle.std.proofs.lemmas.List.Elements.{All-cons, All-nil, All-weaker}
use Rattle.mz_shelf.specs.State.{State}
use Rattle.mz_shelf.specs.Act.{Act}
use Rattle.mz_shelf.specs.Chain.{DidAll}
use Rattle.mz_shelf.specs.Performed.{Stopped}
use Rattle.mz_shelf.specs.declared.stop.Stop.{Stop}
use Rattle.mz_shelf.specs.declared.stop.Stop.TheVariants.{NoMemory}
use Rattle.mz_shelf.proofs.ChainLemmas.{DidAll-nil, DidAll-append}
use Rattle.mz_model.specs.declared.score.Score.{Score}
use Rattle.mz_model.specs.Plans.{IsLegalPlan}
use Rattle.mz_model.specs.Scores.{score_of_plan}
use Rattle.mz_delta.specs.Reading.{totals_of_plan}
use Rattle.mz_num.specs.Limits.{most_runs}
use Rattle.mz_sums.specs.Sums.{Sums, sums_of}
use Rattle.mz_files.specs.declared.summary.SummaryRow.{SummaryRow}
use Rattle.mz_files.specs.Turns.{AreSeats}
use Rattle.mz_run.specs.declared.counted.Counted.{Counted}
use Rattle.mz_run.specs.declared.run_end.RunEnd.{RunEnd}
use Rattle.mz_run.specs.declared.job.Job.{Job}
use Rattle.mz_files.specs.declared.trail.RunTrail.{RunTrail}
use Rattle.mz_run.specs.declared.runs.BestRun.{BestRun}
use Rattle.mz_run.specs.End.{IsEnd}
use Rattle.mz_run.specs.Acts.{acts_of_trails, plan_of_run, plans_of, run_acts, summary_row, totals_of_runs}
use Rattle.mz_sums.specs.Best.{best_of}
use Rattle.mz_sums.proofs.BestLemmas.{best_of_first, best_of_kept, best_of_taken}
use Rattle.mz_run.specs.Ran.{CountsMore, HasCounted, IsBestRun, KeepsBest, RanFirst, RanOnce, RunStopped, RunsStopped, better_run}
use Rattle.mz_run.specs.Ran.RunStopped.{no_trail, in_acts}
use Rattle.mz_run.specs.Ran.StopsIn.{between_runs, in_one}
use Rattle.mz_history.specs.Replay.{IsLegalHistory, replay_of}
use Rattle.mz_run.specs.Run.{final_plan, setting_of}
use Rattle.mz_run.specs.Trail.{AreTrailsFrom, IsTrail}

-- one trail more

AreTrailsFrom-push : (job : Job) (run : ℕ) (trails : List RunTrail) (trail : RunTrail) → AreTrailsFrom job run trails → IsTrail job (run + length trails) trail → AreTrailsFrom job run (trails ++ trail ∷ [])
AreTrailsFrom-push job run [] trail all one = (subst (λ n. IsTrail job n trail) (add-zero run) one, tt)
AreTrailsFrom-push job run (first ∷ trails) trail all one =
    let next : run + suc (length trails) ≡ run + 1 + length trails = omega arith in
    (all.0, AreTrailsFrom-push job (run + 1) trails trail all.1 (subst (λ n. IsTrail job n trail) next one))

acts_of_trails-push : (job : Job) (trails : List RunTrail) (trail : RunTrail) → acts_of_trails job (trails ++ trail ∷ []) ≡ acts_of_trails job trails ++ run_acts job trail
acts_of_trails-push job trails trail =
    flat_map-append (run_acts job) trails (trail ∷ []) ∙ ap (λ (acts : List Act). acts_of_trails job trails ++ acts) (append-nil (run_acts job trail))

length-push : (trails : List RunTrail) (trail : RunTrail) (n : ℕ) → length trails ≡ n → length (trails ++ trail ∷ []) ≡ n + 1
length-push trails trail n whole = length-append trails (trail ∷ []) ∙ ap (λ k. k + 1) whole

-- the totals of the runs' scores with one more

totals-push : (trails : List RunTrail) (trail : RunTrail) → totals_of_runs (trails ++ trail ∷ []) ≡ totals_of_runs trails ++ trail.score.total ∷ []
totals-push trails trail = map-append (λ (t : RunTrail). t.score.total) trails (trail ∷ [])

length-totals-of-runs : (trails : List RunTrail) → length (totals_of_runs trails) ≡ length trails
length-totals-of-runs trails = length-map trails (λ (t : RunTrail). t.score.total)

-- the plans of the runs

abbrev turns_in : List RunTrail → List (List ℕ)
turns_in trails = map (λ (trail : RunTrail). trail.turns) trails

length-turns : (trails : List RunTrail) → length (turns_in trails) ≡ length trails
length-turns [] = refl
length-turns (trail ∷ trails) = ap suc (length-turns trails)

-- an earlier run's plan stays
plan_of_run-earlier : (job : Job) (trails : List RunTrail) (trail : RunTrail) (run : ℕ) → 1 ≤ run → run ≤ length trails → plan_of_run job (trails ++ trail ∷ []) run ≡ plan_of_run job trails run
plan_of_run-earlier job trails trail run from_one within =
    ap (final_plan job run)
    (ap (λ (all : List (List ℕ)). get_or all (run - 1) []) (map-append (λ (t : RunTrail). t.turns) trails (trail ∷ []))
    ∙ get_or_append_left (turns_in trails) (turns_in (trail ∷ [])) [] (run - 1) (omega (arith, length-turns trails)))

-- and the last run has its own
plan_of_run-last : (job : Job) (trails : List RunTrail) (trail : RunTrail) (run : ℕ) → run ≡ 1 + length trails → plan_of_run job (trails ++ trail ∷ []) run ≡ final_plan job run trail.turns
plan_of_run-last job trails trail run next =
    let place : run - 1 ≡ length (turns_in trails) = omega (arith, length-turns trails) in
    ap (final_plan job run)
    (ap (λ (all : List (List ℕ)). get_or all (run - 1) []) (map-append (λ (t : RunTrail). t.turns) trails (trail ∷ []))
    ∙ ap (λ n. get_or (turns_in trails ++ trail.turns ∷ []) n []) place
    ∙ get_or-append_seam (turns_in trails) trail.turns [] [])

-- which run is kept

record IsNext (job : Job) (trails : List RunTrail) (trail : RunTrail) (last : BestRun) : Type 0 where
  run_is : last.run ≡ 1 + length trails
  trail_is : IsTrail job (1 + length trails) trail
  score_is : last.score ≡ trail.score
  plan_is : last.plan ≡ final_plan job (1 + length trails) trail.turns
  totals_are : last.totals.items ≡ totals_of_plan job.problem last.plan

last_kept : (job : Job) (trails : List RunTrail) (trail : RunTrail) (last : BestRun) → IsNext job trails trail last → best_of (totals_of_runs (trails ++ trail ∷ [])) ≡ Some (length trails) → IsBestRun job (trails ++ trail ∷ []) last
last_kept job trails trail last next best =
    let own : final_plan job (1 + length trails) trail.turns ≡ last.plan = sym next.plan_is in
    let place : last.run - 1 ≡ length (totals_of_runs trails) = omega (arith, next.run_is, length-totals-of-runs trails) in
    record {
      best = best ∙ ap (λ n. Some n) (omega (arith, next.run_is));
      total = ap (λ totals. slice_index totals (last.run - 1)) (totals-push trails trail)
          ∙ ap (slice_index (totals_of_runs trails ++ trail.score.total ∷ [])) place
          ∙ get_or-append_seam (totals_of_runs trails) trail.score.total [] 0
          ∙ ap (λ (score : Score). score.total) (sym next.score_is);
      from_one = omega (arith, next.run_is);
      within = omega (arith, next.run_is, length-push trails trail (length trails) refl);
      plan_is = next.plan_is ∙ ap (λ n. final_plan job n trail.turns) (sym next.run_is) ∙ sym (plan_of_run-last job trails trail last.run next.run_is);
      legal = subst (IsLegalPlan job.problem) own next.trail_is.legal;
      totals_are = next.totals_are;
      score_is = next.score_is ∙ next.trail_is.score ∙ ap (score_of_plan job.problem) own;
    }

earlier_kept : (job : Job) (trails : List RunTrail) (trail : RunTrail) (kept : BestRun) → IsBestRun job trails kept → best_of (totals_of_runs (trails ++ trail ∷ [])) ≡ Some (kept.run - 1) → IsBestRun job (trails ++ trail ∷ []) kept
earlier_kept job trails trail kept is best = record {
  best = best;
  total = ap (λ totals. slice_index totals (kept.run - 1)) (totals-push trails trail)
      ∙ get_or_append_left (totals_of_runs trails) (trail.score.total ∷ []) 0 (kept.run - 1) (omega (arith, is.from_one, is.within, length-totals-of-runs trails))
      ∙ is.total;
  from_one = is.from_one;
  within = omega (arith, is.within, length-push trails trail (length trails) refl);
  plan_is = is.plan_is ∙ sym (plan_of_run-earlier job trails trail kept.run is.from_one is.within);
  legal = is.legal;
  totals_are = is.totals_are;
  score_is = is.score_is;
}

-- the kept run stays the best, or the last one is
stays : (job : Job) (trails : List RunTrail) (trail : RunTrail) (kept : BestRun) → IsBestRun job trails kept → kept.score.total ≤ trail.score.total → best_of (totals_of_runs (trails ++ trail ∷ [])) ≡ Some (kept.run - 1)
stays job trails trail kept is least =
    ap best_of (totals-push trails trail) ∙ best_of_kept (totals_of_runs trails) trail.score.total (kept.run - 1) is.best (omega (arith, is.total, least))

taken : (job : Job) (trails : List RunTrail) (trail : RunTrail) (kept : BestRun) → IsBestRun job trails kept → trail.score.total < kept.score.total → best_of (totals_of_runs (trails ++ trail ∷ [])) ≡ Some (length trails)
taken job trails trail kept is lower =
    ap best_of (totals-push trails trail) ∙ best_of_taken (totals_of_runs trails) trail.score.total (kept.run - 1) is.best (omega (arith, is.total, lower))
    ∙ ap (λ n. Some n) (length-totals-of-runs trails)

either : (job : Job) (trails : List RunTrail) (trail : RunTrail) (kept last : BestRun) (lower : Bool) → nat_lt last.score.total kept.score.total ≡ lower → IsBestRun job trails kept → IsNext job trails trail last
    → IsBestRun job (trails ++ trail ∷ []) (if lower then last else kept)
either job trails trail kept last true test is next =
    let own : last.score.total ≡ trail.score.total = ap (λ (score : Score). score.total) next.score_is in
    last_kept job trails trail last next (taken job trails trail kept is (omega (arith, own, ltb-true last.score.total kept.score.total test)))
either job trails trail kept last false test is next =
    let own : last.score.total ≡ trail.score.total = ap (λ (score : Score). score.total) next.score_is in
    earlier_kept job trails trail kept is (stays job trails trail kept is (omega (arith, own, ltb-false last.score.total kept.score.total test)))

best_more : (job : Job) (trails : List RunTrail) (trail : RunTrail) (kept : Option BestRun) (last : BestRun) → KeepsBest job trails kept → IsNext job trails trail last → IsBestRun job (trails ++ trail ∷ []) (better_run kept last)
best_more job trails trail None last none next =
    last_kept job trails trail last next
    (ap (λ (ts : List RunTrail). best_of (totals_of_runs (ts ++ trail ∷ []))) none ∙ best_of_first trail.score.total ∙ ap (λ (ts : List RunTrail). Some (length ts)) (sym none))
best_more job trails trail (Some kept) last is next = either job trails trail kept last (nat_lt last.score.total kept.score.total) refl is next

-- what is counted, with one run more
counted_more : (job : Job) (trails : List RunTrail) (trail : RunTrail) (old new : Counted) → HasCounted job trails old → CountsMore job trail old new → HasCounted job (trails ++ trail ∷ []) new
counted_more job trails trail old new has more = record {
  rows = more.rows ∙ ap (λ (rows : List SummaryRow). rows ++ summary_row job trail ∷ []) has.rows ∙ sym (map-append (summary_row job) trails (trail ∷ []));
  summed = more.summed (plans_of job trails) has.summed ∙ ap (sums_of job.problem) (sym (map-append (λ (t : RunTrail). final_plan job t.run t.turns) trails (trail ∷ [])));
}

-- no run yet
pub ran_none : (job : Job) (trails : List RunTrail) (counted : Counted) (state : State) → trails ≡ [] → HasCounted job [] counted → RanFirst job 0 trails counted state state None
ran_none job trails counted state none has = subst (λ (ts : List RunTrail). RanFirst job 0 ts counted state state None) (sym none) (record {
  runs = tt;
  counts = has;
  whole = refl;
  acts = DidAll-nil state;
  best = refl;
})

-- memory ended the runs before the first
pub none_ran : (job : Job) (trails : List RunTrail) (state : State) (stop : Stop) → trails ≡ [] → stop ≡ NoMemory → RunsStopped job trails state state stop
none_ran job trails state stop none memory = subst (λ (ts : List RunTrail). RunsStopped job ts state state stop) (sym none) (record {
  runs = tt;
  few = omega arith;
  ends = between_runs memory (DidAll-nil state);
})

-- few plans are counted, and they are plans of the job's problem
pub few_counted : (job : Job) (count : ℕ) (trails : List RunTrail) (counted : Counted) (old new : State) (kept : Option BestRun) → RanFirst job count trails counted old new kept → count < job.params.reps → job.params.reps ≤ most_runs → counted.summed.added < most_runs
few_counted job count trails counted old new kept ran few most =
    let added : counted.summed.added ≡ length (plans_of job trails) = ap (λ (s : Sums). s.added) ran.counts.summed in
    let plans : length (plans_of job trails) ≡ length trails = length-map trails (λ (t : RunTrail). final_plan job t.run t.turns) in
    omega (arith, added, plans, ran.whole)

pub own_counted : (job : Job) (count : ℕ) (trails : List RunTrail) (counted : Counted) (old new : State) (kept : Option BestRun) → RanFirst job count trails counted old new kept → counted.summed.parts ≡ job.problem
own_counted job count trails counted old new kept ran = ap (λ (s : Sums). s.parts) ran.counts.summed

-- one run more
ran_one : (job : Job) (before : List RunTrail) (trail : RunTrail) (counted more : Counted) (old mid new : State) (kept : Option BestRun) (last : BestRun) → RanFirst job (length before) before counted old mid kept → IsNext job before trail last → CountsMore job trail counted more
    → DidAll (run_acts job trail) mid new → RanFirst job (length before + 1) (before ++ trail ∷ []) more old new (Some (better_run kept last))
ran_one job before trail counted more old mid new kept last ran next counts did = record {
  runs = AreTrailsFrom-push job 1 before trail ran.runs next.trail_is;
  counts = counted_more job before trail counted more ran.counts counts;
  whole = length-push before trail (length before) refl;
  acts = subst (λ (acts : List Act). DidAll acts old new) (sym (acts_of_trails-push job before trail)) (DidAll-append ran.acts did);
  best = best_more job before trail kept last ran.best next;
}

pub ran_more : (job : Job) (count : ℕ) (before after : List RunTrail) (counted more : Counted) (old mid new : State) (kept : Option BestRun) (last : BestRun) → RanFirst job count before counted old mid kept → RanOnce job (count + 1) before after counted more mid new last
    → RanFirst job (count + 1) after more old new (Some (better_run kept last))
ran_more job count before after counted more old mid new kept last ran once =
    let next : count + 1 ≡ 1 + length before = omega (arith, ran.whole) in
    let longer : RanFirst job (length before + 1) (before ++ once.trail ∷ []) more old new (Some (better_run kept last)) =
    ran_one job before once.trail counted more old mid new kept last (subst (λ n. RanFirst job n before counted old mid kept) (sym ran.whole) ran)
    (record {
      run_is = once.run_is ∙ next;
      trail_is = subst (λ n. IsTrail job n once.trail) next once.is_trail;
      score_is = once.score_is;
      plan_is = once.plan_is ∙ ap (λ n. final_plan job n once.trail.turns) next;
      totals_are = once.totals_are;
    }) once.counts once.acts in
    subst (λ (ts : List RunTrail). RanFirst job (count + 1) ts more old new (Some (better_run kept last))) (sym once.kept)
    (subst (λ n. RanFirst job (n + 1) (before ++ once.trail ∷ []) more old new (Some (better_run kept last))) ran.whole longer)

-- a run stopped
pub runs_stop : (job : Job) (count : ℕ) (before after : List RunTrail) (counted : Counted) (old mid new : State) (kept : Option BestRun) (stop : Stop) → count < job.params.reps → RanFirst job count before counted old mid kept → RunStopped job (count + 1) before after mid new stop
    → RunsStopped job after old new stop
runs_stop job count before after counted old mid new kept stop few ran (no_trail memory same still) =
    subst (λ (ts : List RunTrail). RunsStopped job ts old new stop) (sym same) (record {
      runs = ran.runs;
      few = omega (arith, ran.whole);
      ends = between_runs memory (subst (λ (state : State). DidAll (acts_of_trails job before) old state) (sym still) ran.acts);
    })
runs_stop job count before after counted old mid new kept stop few ran (in_acts trail grown is stopped) =
    let next : count + 1 ≡ 1 + length before = omega (arith, ran.whole) in
    subst (λ (ts : List RunTrail). RunsStopped job ts old new stop) (sym grown) (record {
      runs = AreTrailsFrom-push job 1 before trail ran.runs (subst (λ n. IsTrail job n trail) next is);
      few = omega (arith, ran.whole, length-push before trail (length before) refl);
      ends = in_one before trail mid refl (omega (arith, ran.whole)) ran.acts stopped;
    })

-- what a push left where it failed, and where it didn't
pub still_same : {X : Type 0} (before after : List X) (x : X) (ok : Bool) → ok ≡ false → after ≡ cond ok (before ++ x ∷ []) before → after ≡ before
still_same before after x ok refused is = is ∙ ap (λ b. cond b (before ++ x ∷ []) before) refused

pub one_more : {X : Type 0} (before after : List X) (x found : X) (place : ℕ) (ok : Bool) → place ≡ length before → ok ≡ true → after ≡ cond ok (before ++ x ∷ []) before → found ≡ get_or after place found
    → (after ≡ before ++ x ∷ []) × (found ≡ x)
one_more before after x found place ok end kept is at =
    let grown : after ≡ before ++ x ∷ [] = is ∙ ap (λ b. cond b (before ++ x ∷ []) before) kept in
    (grown, at ∙ ap (λ xs. get_or xs place found) grown ∙ ap (λ n. get_or (before ++ x ∷ []) n found) end ∙ get_or-append_seam before x [] found)

-- the trail of a run that ended
pub trail_of : (job : Job) (run : ℕ) (end : RunEnd) (turns : List ℕ) (score : Score) → IsEnd job run (final_plan job run) end → turns ≡ end.turns → score ≡ end.score
    → IsTrail job run (record { run = run; seed = job.seed; turns = turns; score = score })
trail_of job run end turns score is own_turns own_score = record {
  run_is = refl;
  seed = refl;
  entries = ap length own_turns ∙ is.entries;
  seats = subst (λ (all : List ℕ). All (λ seat. seat < job.workers) all) (sym own_turns) is.seats;
  history = subst (λ (all : List ℕ). IsLegalHistory (setting_of job run) (replay_of (setting_of job run) all)) (sym own_turns) is.history;
  legal = subst (λ (all : List ℕ). IsLegalPlan job.problem (final_plan job run all)) (sym own_turns) (subst (IsLegalPlan job.problem) is.plan_is is.legal);
  score = own_score ∙ is.score_is ∙ ap (score_of_plan job.problem) (is.plan_is ∙ ap (final_plan job run) (sym own_turns));
}

-- the seats of trails are those of workers
seats_from : (job : Job) (run : ℕ) (trails : List RunTrail) → job.workers ≤ 60 → AreTrailsFrom job run trails → All (λ (trail : RunTrail). AreSeats trail.turns) trails
seats_from job run [] few all = All-nil (λ (trail : RunTrail). AreSeats trail.turns)
seats_from job run (trail ∷ trails) few all =
    All-cons (λ (t : RunTrail). AreSeats t.turns) trail trails
    (All-weaker (λ seat. seat < job.workers) (λ seat. seat < 60) (λ seat h. omega arith) trail.turns all.0.seats) (seats_from job (run + 1) trails few all.1)

pub seats_of_trails : (job : Job) (trails : List RunTrail) → job.workers ≤ 60 → AreTrailsFrom job 1 trails → All (λ (trail : RunTrail). AreSeats trail.turns) trails
seats_of_trails job trails few all = seats_from job 1 trails few all

-- a run whose acts stopped, once its trail was kept
pub acts_stopped : (job : Job) (run : ℕ) (before after : List RunTrail) (trail found : RunTrail) (place : ℕ) (ok : Bool) (old new : State) (stop : Stop) → IsTrail job run trail → place ≡ length before → ok ≡ true
    → after ≡ cond ok (before ++ trail ∷ []) before → found ≡ get_or after place found → Stopped (run_acts job found) old new stop → RunStopped job run before after old new stop
acts_stopped job run before after trail found place ok old new stop is end kept grown at stopped =
    let more = one_more before after trail found place ok end kept grown at in
    in_acts trail more.0 is (subst (λ (t : RunTrail). Stopped (run_acts job t) old new stop) more.1 stopped)

-- all of them
pub ran_all : (job : Job) (count all : ℕ) (trails : List RunTrail) (counted : Counted) (old new : State) (kept : Option BestRun) → count ≤ all → all ≤ count → RanFirst job count trails counted old new kept → RanFirst job all trails counted old new kept
ran_all job count all trails counted old new kept most least ran =
    let same : count ≡ all = omega arith in
    subst (λ n. RanFirst job n trails counted old new kept) same ran

-- a run that was done and counted
pub ran_once : (job : Job) (run : ℕ) (before after : List RunTrail) (counted rowed more : Counted) (trail found : RunTrail) (place : ℕ) (ok : Bool) (old new : State) (end : RunEnd) (last : BestRun)
    → IsEnd job run (final_plan job run) end → trail ≡ record { run = run; seed = job.seed; turns = end.turns; score = end.score }
    → place ≡ length before → ok ≡ true → after ≡ cond ok (before ++ trail ∷ []) before → found ≡ get_or after place found → DidAll (run_acts job found) old new
    → rowed.rows.items ≡ counted.rows.items ++ summary_row job trail ∷ [] → rowed.summed ≡ counted.summed → counted.summed.parts ≡ job.problem → more.rows.items ≡ rowed.rows.items
    → ((plans : List (List ℕ)) → rowed.summed ≡ sums_of rowed.summed.parts plans → more.summed ≡ sums_of rowed.summed.parts (plans ++ end.plan ∷ []))
    → last.run ≡ run → last.score ≡ end.score → last.plan ≡ end.plan → last.totals.items ≡ end.totals.items → RanOnce job run before after counted more old new last
ran_once job run before after counted rowed more trail found place ok old new end last is trail_is at kept grown here did row same own rows plans run_is score_is plan_is totals_are =
    let longer = one_more before after trail found place ok at kept grown here in
    let turns : trail.turns ≡ end.turns = ap (λ (t : RunTrail). t.turns) trail_is in
    let number : trail.run ≡ run = ap (λ (t : RunTrail). t.run) trail_is in
    let parts : rowed.summed.parts ≡ job.problem = ap (λ (s : Sums). s.parts) same ∙ own in
    let final : end.plan ≡ final_plan job trail.run trail.turns = is.plan_is ∙ ap (final_plan job run) (sym turns) ∙ ap (λ n. final_plan job n trail.turns) (sym number) in record {
      trail = trail;
      counts = record {
        rows = rows ∙ row;
        summed = λ ps h. plans ps (same ∙ h ∙ ap (λ p. sums_of p ps) (sym parts)) ∙ ap (λ p. sums_of p (ps ++ end.plan ∷ [])) parts ∙ ap (λ (zones : List ℕ). sums_of job.problem (ps ++ zones ∷ [])) final;
      };
      kept = longer.0;
      is_trail = subst (λ (t : RunTrail). IsTrail job run t) (sym trail_is) (trail_of job run end end.turns end.score is refl refl);
      acts = subst (λ (t : RunTrail). DidAll (run_acts job t) old new) longer.1 did;
      run_is = run_is;
      score_is = score_is ∙ sym (ap (λ (t : RunTrail). t.score) trail_is);
      plan_is = plan_is ∙ is.plan_is ∙ ap (final_plan job run) (sym turns);
      totals_are = totals_are ∙ is.totals_are ∙ ap (totals_of_plan job.problem) (sym plan_is);
    }
