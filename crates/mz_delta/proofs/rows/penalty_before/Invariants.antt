use Rattle.std.proofs.Common.{◌≡◌, ◌*◌, ◌^◌, ◌≤◌}
use Rattle.mz_num.specs.Places.{sum_below}
use Rattle.mz_delta.specs.Move.{touched_penalty}
use Rattle.mz_delta.proofs.rows.penalty_before.Given as goal

abbrev pub invariant-loop-i : goal.invariant-loop-i
invariant-loop-i l = record { sum : l.sum ≡ sum_below l.i (touched_penalty l.problem l.reading.unit l.reading.totals.items); small : l.sum ≤ l.i * 10 ^ 18 }
