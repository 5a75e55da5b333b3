use Rattle.std.proofs.Common.{◌≡◌, ◌*◌, ◌≤◌, ◌^◌, slice_index}
use Rattle.mz_num.specs.Places.{sum_below}
use Rattle.mz_model.specs.Targets.{shortfall_of}
use Rattle.mz_files.proofs.missed.shortfall.Given as goal

abbrev pub invariant-loop-row : goal.invariant-loop-row
invariant-loop-row l = record {
  sum : l.sum ≡ sum_below l.row (λ row. shortfall_of l.problem row (slice_index l.totals row));
  small : l.sum ≤ l.row * 2 ^ 64;
}
