use Rattle.std.proofs.Common.{◌≡◌, ◌*◌, ◌^◌, ◌≤◌}
use Rattle.mz_num.specs.Places.{list_below, sum_below}
use Rattle.mz_delta.specs.Move.{moved_total}
use Rattle.mz_delta.proofs.AroundLaws.{moved_penalty}
use Rattle.mz_delta.proofs.rows.penalty_after.Given as goal

abbrev pub invariant-loop-i : goal.invariant-loop-i
invariant-loop-i l = record {
  moved : l.totals.items ≡ list_below l.i (moved_total l.problem l.reading l.zone);
  room : l.fn.totals.room ≤ l.totals.room;
  sum : l.sum ≡ sum_below l.i (moved_penalty l.problem l.reading l.zone);
  small : l.sum ≤ l.i * 10 ^ 18;
}
