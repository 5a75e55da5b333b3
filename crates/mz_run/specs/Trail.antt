-- The trails of runs: what comes back of each.
use Rattle.std.specs.Prelude.{◌≡◌, ℕ, ◌+◌, ◌<◌, List, [], ◌∷◌, length}
use Rattle.std.specs.List.{All}
use Rattle.mz_model.specs.Plans.{IsLegalPlan}
use Rattle.mz_model.specs.Scores.{score_of_plan}
use Rattle.mz_run.specs.declared.job.Job.{Job}
use Rattle.mz_files.specs.declared.trail.RunTrail.{RunTrail}
use Rattle.mz_run.specs.Run.{entries_of_run, final_plan, setting_of}
use Rattle.mz_history.specs.Replay.{IsLegalHistory, replay_of}

-- the trail of a run: its number, the random seed, as many turns of the workers as the run has entries; what these
-- turns play is a legal annealing history, the run ends with a legal plan, and the score is that plan's
pub record IsTrail (job : Job) (run : ℕ) (trail : RunTrail) : Type 0 where
  pub run_is : trail.run ≡ run
  pub seed : trail.seed ≡ job.seed
  pub entries : length trail.turns ≡ entries_of_run job
  pub seats : All (λ seat. seat < job.workers) trail.turns
  pub history : IsLegalHistory (setting_of job run) (replay_of (setting_of job run) trail.turns)
  pub legal : IsLegalPlan job.problem (final_plan job run trail.turns)
  pub score : trail.score ≡ score_of_plan job.problem (final_plan job run trail.turns)

-- the trails of the runs from this one on
abbrev pub AreTrailsFrom : Job → ℕ → List RunTrail → Type 0
AreTrailsFrom job run [] = Unit {0}
AreTrailsFrom job run (trail ∷ trails) = IsTrail job run trail × AreTrailsFrom job (run + 1) trails

-- the trails of the first runs, which count from 1
abbrev pub AreTrails : Job → List RunTrail → Type 0
AreTrails job trails = AreTrailsFrom job 1 trails
