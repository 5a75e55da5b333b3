use Rattle.std.proofs.Common.{◌≡◌, map, take}
use Rattle.mz_penalty.specs.Base.{held_by}
use Rattle.mz_penalty.specs.Ordered.{held}
use Rattle.mz_penalty.proofs.bases.holders_of.Given as goal

abbrev pub invariant-loop-place : goal.invariant-loop-place
invariant-loop-place l = map held l.holders.items ≡ held_by l.raw (take l.place-index l.amounts)
