-- A run: what its history is played with, how long it is, and the plan that it ends with.
use Rattle.std.specs.Prelude.{ℕ, Bool, ◌||◌, ◌&&◌, ◌==◌, if◌then◌else◌, nat_lt, List, length, unwrap_or}
use Rattle.mz_params.specs.declared.params.Params.{Params}
use Rattle.mz_model.specs.Zones.{free_units}
use Rattle.mz_improve.specs.Improved.{improved_plan}
use Rattle.mz_run.specs.declared.job.Job.{Job}
use Rattle.mz_history.specs.Cooling.{cooling_of}
use Rattle.mz_history.specs.Replay.{Setting, replay_of, plan_of_history}

-- the random seed: RANDSEED, or the one that was handed in where it is negative or not given
abbrev pub seed_of : Params → ℕ → ℕ
seed_of params chance = unwrap_or params.seed chance

-- what the history of a run is played with
abbrev pub setting_of : Job → ℕ → Setting
setting_of job run = record {
  parts = job.problem;
  cooling = cooling_of job.problem job.params job.seed run;
  prop = job.params.prop;
  seed = job.seed;
  run = run;
}

-- whether a job's runs anneal: by its mode, where some unit is free
abbrev pub anneals : Job → Bool
anneals job = (job.params.mode == 1 || job.params.mode == 6) && nat_lt 0 (length (free_units job.problem))

-- how many entries a run has: NUMITNS where it anneals, else none
abbrev pub entries_of_run : Job → ℕ
entries_of_run job = if anneals job then job.params.iterations else 0

-- the plan that annealing of these turns ends with
abbrev pub annealed_plan : Job → ℕ → List ℕ → List ℕ
annealed_plan job run turns = plan_of_history (setting_of job run) (replay_of (setting_of job run) turns)

-- RUNMODE 1 and 4 improve the plan that annealing ends with
abbrev pub improves : Params → Bool
improves params = params.mode == 1 || params.mode == 4

-- the plan that a run of these turns ends with: the annealed plan, or what improvement makes of it
abbrev pub final_plan : Job → ℕ → List ℕ → List ℕ
final_plan job run turns =
    if improves job.params then improved_plan job.problem (annealed_plan job run turns) else annealed_plan job run turns
