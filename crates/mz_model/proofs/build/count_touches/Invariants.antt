use Rattle.std.proofs.Common.{◌≡◌, take}
use Rattle.mz_model.specs.Built.{touching}
use Rattle.mz_model.specs.Groups.{counts_with}
use Rattle.mz_model.proofs.build.count_touches.Given as goal

abbrev pub invariant-loop-unit : goal.invariant-loop-unit
invariant-loop-unit l = l.counts.items ≡ counts_with l.fn.counts.items (touching 0 l.part (take l.unit-index l.holders))
