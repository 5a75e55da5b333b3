use Rattle.std.proofs.Common.{◌≡◌, ◌≤◌, ◌^◌, take}
use Rattle.std.specs.Prelude.{IfSome}
use Rattle.mz_cool.specs.Adaptive.{least, sizes_above_0}
use Rattle.mz_cool.proofs.adaptive.least_size.Given as goal

abbrev pub invariant-loop-change : goal.invariant-loop-change
invariant-loop-change l = record {
  value : l.least ≡ least (sizes_above_0 (take l.change-index l.changes));
  bound : IfSome l.least (λ size. size ≤ 10 ^ 25);
}
