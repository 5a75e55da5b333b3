-- A run of annealing by the workers of a job.
use Rattle.std.proofs.Common.{◌≡◌, ◌<◌, ℕ, true, false, List, [], length, refl, sym, ap, ◌∙◌, subst}
use Rattle.std.specs.Prelude.{if◌then◌else◌}
use Rattle.std.specs.List.{All}
use Rattle.std.proofs.lemmas.Bool.{cond-true, cond-false}
use Rattle.std.proofs.lemmas.List.{length-map}
use Rattle.std.proofs.lemmas.List.Elements.{All-map, All-nil}
use Rattle.mz_cool.specs.Schedule.{Cooling}
use Rattle.mz_model.specs.declared.score.Score.{Score}
use Rattle.mz_model.specs.Plans.{IsLegalPlan}
use Rattle.mz_model.specs.Scores.{score_of_plan}
use Rattle.mz_delta.specs.Reading.{totals_of_plan}
use Rattle.mz_history.specs.declared.entry.Entry.{Entry}
use Rattle.mz_history.specs.declared.rules.Rules.{Rules}
use Rattle.mz_history.specs.Cooling.{AreRulesOf}
use Rattle.mz_history.specs.Core.{seats_of}
use Rattle.mz_history.specs.Replay.{entries_from, plan_of_history, replay_of, IsLegalHistory, Setting}
use Rattle.mz_history.specs.Rules.{setting_with}
use Rattle.mz_history.specs.Start.{starting_plan}
use Rattle.mz_improve.specs.Improved.{improved_plan}
use Rattle.mz_crew.specs.Crew.{IsAnnealed as AreAnnealed}
use Rattle.mz_run.specs.declared.run_end.RunEnd.{RunEnd}
use Rattle.mz_run.specs.declared.job.Job.{Job}
use Rattle.mz_run.specs.End.{IsEnd}
use Rattle.mz_run.specs.Run.{annealed_plan, anneals, entries_of_run, final_plan, improves, setting_of}

-- what the parameters ask for is what the run is played with
setting-is : (job : Job) (run : ℕ) (rules : Rules) → AreRulesOf job.problem job.params job.seed run rules → setting_with job.problem rules job.seed run ≡ setting_of job run
setting-is job run rules asked =
    ap (λ (c : Cooling). let s : Setting = record { parts = job.problem; cooling = c; prop = rules.prop; seed = job.seed; run = run } in s) asked.schedule
    ∙ ap (λ (p : ℕ). let s : Setting = record { parts = job.problem; cooling = (setting_of job run).cooling; prop = p; seed = job.seed; run = run } in s) asked.prop

-- what the workers leave is what annealing promises
pub annealed-of : (job : Job) (run : ℕ) (rules : Rules) (journal : List Entry) (plan totals : List ℕ) (score : Score) (end : RunEnd) → anneals job ≡ true → AreRulesOf job.problem job.params job.seed run rules
    → AreAnnealed (setting_with job.problem rules job.seed run) rules.limit job.workers journal plan totals score → end.turns ≡ seats_of journal → end.plan ≡ plan → end.totals.items ≡ totals → end.score ≡ score → end.journal.items ≡ journal → IsEnd job run (annealed_plan job run) end
annealed-of job run rules journal plan totals score end anneal asked left turns plan_is totals_is score_is same =
    let s = setting_of job run in
    let done : AreAnnealed s rules.limit job.workers journal plan totals score = subst (λ x. AreAnnealed x rules.limit job.workers journal plan totals score) (setting-is job run rules asked) left in
    let legal : IsLegalHistory s journal = done.closed.kept.journal.history in
    let replayed : journal ≡ replay_of s end.turns = legal ∙ ap (replay_of s) (sym turns) in
    let whole : length journal ≡ entries_of_run job = done.whole ∙ asked.limit ∙ sym (cond-true (anneals job) job.params.iterations 0 anneal) in record {
      entries = ap length turns ∙ length-map journal (λ (e : Entry). e.seat) ∙ whole;
      seats = subst (All (λ seat. seat < job.workers)) (sym turns) (All-map (λ seat. seat < job.workers) (λ (e : Entry). e.seat) journal done.closed.kept.journal.owners);
      history = subst (IsLegalHistory s) replayed legal;
      journal_is = same ∙ replayed;
      journal_whole = ap length same ∙ whole;
      plan_is = plan_is ∙ done.closed.plan_is ∙ ap (plan_of_history s) replayed;
      legal = subst (IsLegalPlan job.problem) (sym plan_is) done.closed.legal;
      totals_are = totals_is ∙ done.closed.totals_are ∙ ap (totals_of_plan job.problem) (sym plan_is);
      score_is = score_is ∙ done.closed.score_is ∙ ap (score_of_plan job.problem) (sym plan_is);
    }

-- no turns play no entries
nothing-played : (s : Setting) → replay_of s [] ≡ []
unfolding entries_from
nothing-played s = refl

-- a run without entries ends with the plan that it starts from
pub at-rest : (job : Job) (run : ℕ) (end : RunEnd) → anneals job ≡ false → end.turns ≡ [] → end.plan ≡ starting_plan job.problem job.params.prop job.seed run
    → IsLegalPlan job.problem end.plan → end.totals.items ≡ totals_of_plan job.problem end.plan → end.score ≡ score_of_plan job.problem end.plan → end.journal.items ≡ [] → IsEnd job run (annealed_plan job run) end
at-rest job run end rests turns plan_is legal totals_are score_is empty =
    let s = setting_of job run in
    let none : replay_of s end.turns ≡ [] = ap (replay_of s) turns ∙ nothing-played s in record {
      entries = ap length turns ∙ sym (cond-false (anneals job) job.params.iterations 0 rests);
      seats = subst (All (λ seat. seat < job.workers)) (sym turns) (All-nil (λ seat. seat < job.workers));
      history = subst (IsLegalHistory s) (sym none) (sym (nothing-played s));
      journal_is = empty ∙ sym none;
      journal_whole = ap length empty ∙ sym (cond-false (anneals job) job.params.iterations 0 rests);
      plan_is = plan_is ∙ ap (plan_of_history s) (sym none);
      legal = legal;
      totals_are = totals_are;
      score_is = score_is;
    }

-- a plan that isn't improved is the last one
pub end-kept : (job : Job) (run : ℕ) (end : RunEnd) → improves job.params ≡ false → IsEnd job run (annealed_plan job run) end → IsEnd job run (final_plan job run) end
end-kept job run end kept is = record {
  entries = is.entries;
  seats = is.seats;
  history = is.history;
  journal_is = is.journal_is;
  journal_whole = is.journal_whole;
  plan_is = is.plan_is ∙ ap (λ b. if b then improved_plan job.problem (annealed_plan job run end.turns) else annealed_plan job run end.turns) (sym kept);
  legal = is.legal;
  totals_are = is.totals_are;
  score_is = is.score_is;
}

-- an improved plan is the last one
pub end-improved : (job : Job) (run : ℕ) (annealed end : RunEnd) → improves job.params ≡ true → IsEnd job run (annealed_plan job run) annealed → end.turns ≡ annealed.turns → end.plan ≡ improved_plan job.problem annealed.plan
    → IsLegalPlan job.problem end.plan → end.totals.items ≡ totals_of_plan job.problem end.plan → end.score ≡ score_of_plan job.problem end.plan → end.journal.items ≡ annealed.journal.items → IsEnd job run (final_plan job run) end
end-improved job run annealed end better is turns plan_is legal totals_are score_is same = record {
  entries = ap length turns ∙ is.entries;
  seats = subst (All (λ seat. seat < job.workers)) (sym turns) is.seats;
  history = subst (λ (all : List ℕ). IsLegalHistory (setting_of job run) (replay_of (setting_of job run) all)) (sym turns) is.history;
  journal_is = same ∙ is.journal_is ∙ ap (replay_of (setting_of job run)) (sym turns);
  journal_whole = ap length same ∙ is.journal_whole;
  plan_is = plan_is ∙ ap (improved_plan job.problem) (is.plan_is ∙ ap (annealed_plan job run) (sym turns))
      ∙ ap (λ b. if b then improved_plan job.problem (annealed_plan job run end.turns) else annealed_plan job run end.turns) (sym better);
  legal = legal;
  totals_are = totals_are;
  score_is = score_is;
}
