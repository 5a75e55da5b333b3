use Rattle.std.proofs.Common.{◌≡◌, ◌+◌, ◌*◌, ◌^◌, ◌≤◌}
use Rattle.mz_num.specs.Places.{sum_below}
use Rattle.mz_delta.specs.Move.{neighbour_term}
use Rattle.mz_delta.proofs.boundary.boundary_change.Given as goal

abbrev pub invariant-loop-i : goal.invariant-loop-i
invariant-loop-i l = record {
  change : l.after + sum_below l.i (neighbour_term l.problem l.reading l.reading.zone) ≡ l.before + sum_below l.i (neighbour_term l.problem l.reading l.zone);
  before_small : l.before ≤ l.i * 10 ^ 18;
  after_small : l.after ≤ l.i * 10 ^ 18;
}
