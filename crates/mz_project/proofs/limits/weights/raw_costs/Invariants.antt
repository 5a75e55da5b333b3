use Rattle.std.proofs.Common.{◌≡◌}
use Rattle.mz_num.specs.Places.{list_below}
use Rattle.mz_project.specs.Costs.{raw_cost_of}
use Rattle.mz_project.proofs.limits.weights.raw_costs.Given as goal

abbrev pub invariant-loop-unit : goal.invariant-loop-unit
invariant-loop-unit l = l.raw.items ≡ list_below l.unit (raw_cost_of l.area)
