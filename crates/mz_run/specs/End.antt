-- How a run ends.
use Rattle.std.specs.Prelude.{◌≡◌, ◌<◌, ℕ, List, length}
use Rattle.std.specs.List.{All}
use Rattle.mz_model.specs.Plans.{IsLegalPlan}
use Rattle.mz_model.specs.Scores.{score_of_plan}
use Rattle.mz_delta.specs.Reading.{totals_of_plan}
use Rattle.mz_run.specs.declared.run_end.RunEnd.{RunEnd}
use Rattle.mz_run.specs.declared.job.Job.{Job}
use Rattle.mz_run.specs.Run.{entries_of_run, setting_of}
use Rattle.mz_history.specs.Replay.{IsLegalHistory, replay_of}

-- turns of the workers, as many as the run has entries, which play a legal history, the journal; the plan that these
-- turns lead to, by a rule; and what it holds and scores
pub record IsEnd (job : Job) (run : ℕ) (last : List ℕ → List ℕ) (end : RunEnd) : Type 0 where
  pub entries : length end.turns ≡ entries_of_run job
  pub seats : All (λ seat. seat < job.workers) end.turns
  pub history : IsLegalHistory (setting_of job run) (replay_of (setting_of job run) end.turns)
  pub journal_is : end.journal.items ≡ replay_of (setting_of job run) end.turns
  pub journal_whole : length end.journal.items ≡ entries_of_run job
  pub plan_is : end.plan ≡ last end.turns
  pub legal : IsLegalPlan job.problem end.plan
  pub totals_are : end.totals.items ≡ totals_of_plan job.problem end.plan
  pub score_is : end.score ≡ score_of_plan job.problem end.plan
