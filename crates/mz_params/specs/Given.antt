-- The parameters that the lines of a file give, with this project's defaults.
use Rattle.std.specs.Prelude.{ℕ, List, [], ◌∷◌, Option, Some, None, Result, Ok, Err, codes}
use Rattle.std.specs.Option.{unwrap_or}
use Rattle.std.specs.Result.{result_unwrap_or}
use Rattle.mz_num.specs.Limits.{million}
use Rattle.mz_params.specs.declared.key.Key.{Key}
use Rattle.mz_params.specs.declared.key.Key.TheVariants.{InputDir, OutputDir, ScenName, PuName, FeatName}
use Rattle.mz_params.specs.declared.key.Key.TheVariants.{PuVsFeatName, BoundName, ZonesName, CostsName, ZoneCostName}
use Rattle.mz_params.specs.declared.key.Key.TheVariants.{ZoneBoundCostName, ZoneContribName, ZoneTargetName}
use Rattle.mz_params.specs.declared.key.Key.TheVariants.{PuLockName, PuZoneName, AvailableZone, Blm, Prop, MissLevel}
use Rattle.mz_params.specs.declared.key.Key.TheVariants.{RandSeed, NumReps, NumItns, StartTemp, CoolFac, NumTemp}
use Rattle.mz_params.specs.declared.key.Key.TheVariants.{RunMode, SaveRun, SaveBest, SaveSummary, SaveTargMet}
use Rattle.mz_params.specs.declared.key.Key.TheVariants.{SaveSumSoln, SaveTurns}
use Rattle.mz_params.specs.declared.params.Params.{Params}
use Rattle.mz_params.specs.declared.fault.ParamFault.{ParamFault}
use Rattle.mz_params.specs.KeyLine.{KeyLine}
use Rattle.mz_params.specs.Lines.{value_of}
use Rattle.mz_params.specs.Value.{text_value, whole_value, millionths_value, seed_value, start_value, mode_value}

-- a text that isn't empty
abbrev pub full_text : Result (List ℕ) ParamFault → Option (List ℕ)
full_text (Err fault) = None
full_text (Ok []) = None
full_text (Ok (b ∷ text)) = Some (b ∷ text)

-- the text that a value gives: an empty one counts as not given
abbrev pub text_in : Key → Option (List ℕ) → Option (List ℕ)
text_in key None = None
text_in key (Some value) = full_text (text_value key value)

-- what a value reads as, or the default where none is given
abbrev pub read_or : {A : Type 0} → A → (List ℕ → Result A ParamFault) → Option (List ℕ) → A
read_or default read None = default
read_or default read (Some value) = result_unwrap_or (read value) default

-- the text of a key, the whole number and the number of millionths
unfoldable pub text_of : List KeyLine → Key → Option (List ℕ)
text_of lines key = text_in key (value_of key lines)

unfoldable pub whole_at : List KeyLine → Key → ℕ → ℕ
whole_at lines key default = read_or default (whole_value key) (value_of key lines)

unfoldable pub millionths_at : List KeyLine → Key → ℕ → ℕ
millionths_at lines key default = read_or default (millionths_value key) (value_of key lines)

-- the random seed, the temperature to start at and the run mode
unfoldable pub seed_of : List KeyLine → Option ℕ
seed_of lines = read_or None (seed_value RandSeed) (value_of RandSeed lines)

unfoldable pub start_of : List KeyLine → Option ℕ
start_of lines = read_or None (start_value StartTemp) (value_of StartTemp lines)

unfoldable pub mode_of : List KeyLine → ℕ
mode_of lines = read_or 1 (mode_value RunMode) (value_of RunMode lines)

-- the parameters that lines without a fault give
unfoldable pub params_of : List KeyLine → Params
params_of lines = record {
  input_dir = unwrap_or (text_of lines InputDir) [];
  output_dir = unwrap_or (text_of lines OutputDir) [];
  scen = unwrap_or (text_of lines ScenName) (codes "output");
  units = unwrap_or (text_of lines PuName) [];
  features = text_of lines FeatName;
  amounts = text_of lines PuVsFeatName;
  bounds = text_of lines BoundName;
  zones = text_of lines ZonesName;
  costs = text_of lines CostsName;
  zone_costs = text_of lines ZoneCostName;
  zone_bounds = text_of lines ZoneBoundCostName;
  contribs = text_of lines ZoneContribName;
  zone_targets = text_of lines ZoneTargetName;
  locks = text_of lines PuLockName;
  zone_sets = text_of lines PuZoneName;
  available = whole_at lines AvailableZone 1;
  blm = millionths_at lines Blm 0;
  prop = millionths_at lines Prop 0;
  miss_level = millionths_at lines MissLevel million;
  seed = seed_of lines;
  reps = whole_at lines NumReps 1;
  iterations = whole_at lines NumItns 0;
  start = start_of lines;
  cool = millionths_at lines CoolFac million;
  levels = whole_at lines NumTemp 1;
  mode = mode_of lines;
  save_run = whole_at lines SaveRun 0;
  save_best = whole_at lines SaveBest 0;
  save_summary = whole_at lines SaveSummary 0;
  save_missing = whole_at lines SaveTargMet 0;
  save_summed = whole_at lines SaveSumSoln 0;
  save_turns = whole_at lines SaveTurns 0;
}
