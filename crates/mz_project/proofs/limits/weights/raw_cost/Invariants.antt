use Rattle.std.proofs.Common.{◌≡◌, ◌+◌, ◌*◌}
use Rattle.std.specs.Prelude.{slice_index}
use Rattle.mz_num.specs.Places.{sum_below}
use Rattle.mz_project.proofs.limits.weights.raw_cost.Given as goal

abbrev pub invariant-loop-cost : goal.invariant-loop-cost
invariant-loop-cost l = l.raw ≡ sum_below l.cost (λ cost. slice_index l.costs (l.unit * l.count + cost))
