use Rattle.std.proofs.Common.{◌≡◌, map, take}
use Rattle.std.proofs.Math.ListN.{replicate}
use Rattle.mz_model.specs.Amounts.{holder_of}
use Rattle.mz_model.specs.Groups.{counts_with}
use Rattle.mz_model.proofs.holders.holder_counts.Given as goal

abbrev pub invariant-loop-row : goal.invariant-loop-row
invariant-loop-row l = l.counts.items ≡ counts_with (replicate l.features 0) (map holder_of (take l.row-index l.amounts))
