use Rattle.std.proofs.Common.{◌≡◌}
use Rattle.mz_num.specs.Places.{places_below}
use Rattle.mz_model.specs.Zones.{is_free}
use Rattle.mz_model.proofs.build.free_of.Given as goal

abbrev pub invariant-loop-unit : goal.invariant-loop-unit
invariant-loop-unit l = l.free.items ≡ places_below l.unit (is_free l.parts)
