use Rattle.std.proofs.Common.{◌≡◌, length, map, take}
use Rattle.mz_model.specs.Zones.{allowed_zones}
use Rattle.mz_model.proofs.build.counts_of_free.Given as goal

abbrev pub invariant-loop-unit : goal.invariant-loop-unit
invariant-loop-unit l = l.counts.items ≡ map (λ unit. length (allowed_zones l.parts unit)) (take l.unit-index l.free)
