use Rattle.std.proofs.Common.{ℕ, ◌≤◌, ◌<◌, ◌^◌}
use Rattle.mz_project.specs.Gains.{greatest_gain}
use Rattle.mz_project.specs.TargetRows.{overall_row}
use Rattle.mz_project.proofs.limits.gains.limited_gains.Given as goal

abbrev pub invariant-loop-feature : goal.invariant-loop-feature
invariant-loop-feature l = (k : ℕ) → k < l.feature → greatest_gain l.region (overall_row l.region k) ≤ 10 ^ 18
