use Rattle.std.proofs.Common.{◌≡◌, ◌≤◌, ◌^◌, take}
use Rattle.std.specs.Prelude.{map, unsigned_abs}
use Rattle.mz_cool.specs.Adaptive.{greatest}
use Rattle.mz_cool.proofs.adaptive.greatest_size.Given as goal

abbrev pub invariant-loop-change : goal.invariant-loop-change
invariant-loop-change l = record {
  value : l.greatest ≡ greatest (map unsigned_abs (take l.change-index l.changes));
  bound : l.greatest ≤ 10 ^ 25;
}
