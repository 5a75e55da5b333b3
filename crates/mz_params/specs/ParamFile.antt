-- What a whole parameter file reads as, in this project's profile.
use Rattle.std.specs.Prelude.{ℕ, ◌≡◌, ◌≤◌, ◌≢◌, ◌*◌, ◌⊎◌, Bool, not, ◌&&◌, ◌==◌, nat_lt, List, [], length, Option}
use Rattle.std.specs.Prelude.{Some, None, is_some, is_none, IfSome, Result, Ok, Err, if◌then◌else◌}
use Rattle.std.specs.Option.{option_or}
use Rattle.mz_num.specs.Limits.{greatest_id, greatest_quantity, million, most_levels, most_proposals, most_runs}
use Rattle.mz_params.specs.declared.key.Key.TheVariants.{PuName, FeatName, PuVsFeatName, NumItns, CoolFac, SaveTurns}
use Rattle.mz_params.specs.declared.params.Params.{Params}
use Rattle.mz_params.specs.declared.fault.ParamFault.{ParamFault}
use Rattle.mz_params.specs.declared.fault.ParamFault.TheVariants.{Missing, OutOfRange, NoMemory, Repeated, BadValue}
use Rattle.mz_params.specs.declared.fault.ParamFault.TheVariants.{LeftOut}
use Rattle.mz_params.specs.KeyLine.{KeyLine}
use Rattle.mz_params.specs.Lines.{lines_of, first_fault}
use Rattle.mz_params.specs.Given.{params_of}

-- the proposals of all runs, and the turns that are kept of them
abbrev pub most_proposals_of_all : ℕ
most_proposals_of_all = 1000000000

abbrev pub most_kept_turns : ℕ
most_kept_turns = 200000000

-- the fault, where the test holds
abbrev pub fault_where : Bool → ParamFault → Option ParamFault
fault_where test fault = (if test then Some fault else None)

-- the first file that is needed and isn't named: the units; the features with the amounts; the amounts with the
-- features
abbrev pub missing_fault : Params → Option ParamFault
missing_fault p =
    option_or (fault_where (length p.units == 0) (Missing PuName))
    (option_or (fault_where (is_none p.features && is_some p.amounts) (Missing FeatName))
    (fault_where (is_some p.features && is_none p.amounts) (Missing PuVsFeatName)))

-- the first of the limits on several keys that is passed: of all proposals, of cooling from a given start, of
-- stored turns
abbrev pub limit_fault : Params → Option ParamFault
limit_fault p =
    option_or (fault_where (nat_lt most_proposals_of_all (p.reps * p.iterations)) (OutOfRange NumItns))
    (option_or (fault_where (is_some p.start && nat_lt million p.cool) (OutOfRange CoolFac))
    (fault_where (not (p.save_turns == 0) && nat_lt most_kept_turns (p.reps * p.iterations)) (OutOfRange SaveTurns)))

-- a value, unless a fault stands against it
abbrev pub unless : Option ParamFault → Params → Result Params ParamFault
unless None params = Ok params
unless (Some fault) params = Err fault

-- the parameters of lines, or the first fault: of the lines in order, then of missing files, then of the limits
abbrev pub params_in : List KeyLine → Result Params ParamFault
params_in lines =
    unless
    (option_or (first_fault [] lines) (option_or (missing_fault (params_of lines)) (limit_fault (params_of lines))))
    (params_of lines)

-- the parameters of a file, or its first fault
unfoldable pub params_from : List ℕ → Result Params ParamFault
params_from bytes = params_in (lines_of bytes)

-- the answer is that of the definition, or want of memory
abbrev pub Answers : Result Params ParamFault → Result Params ParamFault → Type 0
Answers (Ok params) made = made ≡ Ok params
Answers (Err (Repeated key)) made = made ≡ Err (Repeated key)
Answers (Err (BadValue key)) made = made ≡ Err (BadValue key)
Answers (Err (OutOfRange key)) made = made ≡ Err (OutOfRange key)
Answers (Err (LeftOut key)) made = made ≡ Err (LeftOut key)
Answers (Err (Missing key)) made = made ≡ Err (Missing key)
Answers (Err NoMemory) made = Unit {0}

-- a fault is the one that the lines give, or want of memory
abbrev pub IsFirstFault : ParamFault → Option ParamFault → Type 0
IsFirstFault NoMemory first = Unit {0}
IsFirstFault fault first = first ≡ Some fault

-- the parameters are in their ranges, alone and together
pub record IsAccepted (p : Params) : Type 0 where
  pub units : p.units ≢ []
  pub features_with_amounts : is_some p.features ≡ is_some p.amounts
  pub available : p.available ≤ greatest_id
  pub blm : p.blm ≤ greatest_quantity
  pub prop : p.prop ≤ million
  pub miss_level : p.miss_level ≤ million
  pub seed : IfSome p.seed (λ s. s ≤ greatest_id)
  pub some_reps : 1 ≤ p.reps
  pub reps : p.reps ≤ most_runs
  pub iterations : p.iterations ≤ most_proposals
  pub some_levels : 1 ≤ p.levels
  pub levels : p.levels ≤ most_levels
  pub mode : (p.mode ≡ 1) ⊎ ((p.mode ≡ 4) ⊎ (p.mode ≡ 6))
  pub save_run : p.save_run ≤ 3
  pub save_best : p.save_best ≤ 3
  pub save_summary : p.save_summary ≤ 3
  pub save_missing : p.save_missing ≤ 3
  pub save_summed : p.save_summed ≤ 3
  pub save_turns : p.save_turns ≤ 3
  pub proposals : p.reps * p.iterations ≤ most_proposals_of_all
  pub cool_in_range : p.cool ≤ greatest_quantity
  pub cool : IfSome p.start (λ start. p.cool ≤ million)
  pub turns : p.save_turns ≢ 0 → p.reps * p.iterations ≤ most_kept_turns
