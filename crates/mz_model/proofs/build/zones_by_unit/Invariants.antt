use Rattle.std.proofs.Common.{◌≡◌}
use Rattle.mz_num.specs.Places.{list_below}
use Rattle.mz_model.specs.Zones.{allowed_zones}
use Rattle.mz_model.proofs.build.zones_by_unit.Given as goal

abbrev pub invariant-loop-set : goal.invariant-loop-set
invariant-loop-set l = l.zones ≡ list_below l.set-index (allowed_zones l.parts)
