use Rattle.std.proofs.Common.{◌≡◌, ◌*◌, ◌^◌, ◌≤◌}
use Rattle.mz_num.specs.Places.{sum_below}
use Rattle.mz_delta.specs.Move.{neighbour_term}
use Rattle.mz_delta.proofs.boundary.boundary_around.Given as goal

abbrev pub invariant-loop-i : goal.invariant-loop-i
invariant-loop-i l = record { sum : l.sum ≡ sum_below l.i (neighbour_term l.problem l.reading l.zone); small : l.sum ≤ l.i * 10 ^ 18 }
