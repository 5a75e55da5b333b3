use Rattle.std.proofs.Common.{◌≡◌, ◌≤◌, length, not}
use Rattle.mz_num.specs.Places.{places_below}
use Rattle.mz_files.specs.Missed.{row_is_met}
use Rattle.mz_files.proofs.missed.missing_rows.Given as goal

abbrev pub invariant-loop-row : goal.invariant-loop-row
invariant-loop-row l = record {
  missing : l.missing ≡ length (places_below l.row (λ row. not (row_is_met l.problem l.totals l.level row)));
  few : l.missing ≤ l.row;
}
