-- The numbers that each key of a parameter file takes, in this project's profile.
use Rattle.std.specs.Prelude.{ℕ}
use Rattle.mz_num.specs.Limits.{greatest_id, greatest_quantity, million, most_levels, most_proposals, most_runs}
use Rattle.mz_params.specs.declared.key.Key.{Key}
use Rattle.mz_params.specs.declared.key.Key.TheVariants.{AvailableZone, Blm, Prop, MissLevel, NumReps, NumItns}
use Rattle.mz_params.specs.declared.key.Key.TheVariants.{CoolFac, NumTemp, SaveRun, SaveBest, SaveSummary}
use Rattle.mz_params.specs.declared.key.Key.TheVariants.{SaveTargMet, SaveSumSoln, SaveTurns}

-- the least number that a key takes
abbrev pub least_of : Key → ℕ
least_of NumReps = 1
least_of NumTemp = 1
least_of _ = 0

-- the greatest number that a key takes: a whole number, or one of millionths
abbrev pub greatest_of : Key → ℕ
greatest_of AvailableZone = greatest_id
greatest_of Blm = greatest_quantity
greatest_of Prop = million
greatest_of MissLevel = million
greatest_of NumReps = most_runs
greatest_of NumItns = most_proposals
greatest_of CoolFac = greatest_quantity
greatest_of NumTemp = most_levels
greatest_of SaveRun = 3
greatest_of SaveBest = 3
greatest_of SaveSummary = 3
greatest_of SaveTargMet = 3
greatest_of SaveSumSoln = 3
greatest_of SaveTurns = 3
greatest_of _ = 0
