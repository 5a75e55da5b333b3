use Rattle.std.proofs.Common.{◌≡◌, ◌+◌, ◌*◌, ◌^◌, ◌≤◌}
use Rattle.mz_num.specs.Places.{list_below, sum_below}
use Rattle.mz_delta.specs.Move.{moved_total, touched_penalty}
use Rattle.mz_delta.proofs.AroundLaws.{moved_penalty}
use Rattle.mz_delta.proofs.rows.rows_change.Given as goal

abbrev pub invariant-loop-i : goal.invariant-loop-i
invariant-loop-i l = record {
  moved : l.totals.items ≡ list_below l.i (moved_total l.problem l.reading l.zone);
  room : l.fn.totals.room ≤ l.totals.room;
  change : l.after + sum_below l.i (touched_penalty l.problem l.reading.unit l.reading.totals.items) ≡ l.before + sum_below l.i (moved_penalty l.problem l.reading l.zone);
  before_small : l.before ≤ l.i * 10 ^ 18;
  after_small : l.after ≤ l.i * 10 ^ 18;
}
