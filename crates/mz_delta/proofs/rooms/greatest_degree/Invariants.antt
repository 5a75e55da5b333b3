use Rattle.std.proofs.Common.{◌≡◌, length}
use Rattle.mz_model.specs.Boundary.{neighbours_of}
use Rattle.mz_num.specs.Places.{greatest_below}
use Rattle.mz_delta.proofs.rooms.greatest_degree.Given as goal

abbrev pub invariant-loop-unit : goal.invariant-loop-unit
invariant-loop-unit l = l.greatest ≡ greatest_below l.unit (λ unit. length (neighbours_of l.problem unit))
