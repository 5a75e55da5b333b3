use Rattle.mz_units.proofs.ZoneSetLemmas.{AreZoneSetsSoFar}
use Rattle.mz_units.proofs.zone_sets.read_zone_sets.Given as goal

abbrev pub invariant-loop-row : goal.invariant-loop-row
invariant-loop-row l = AreZoneSetsSoFar l.units l.zones l.table l.limited.items l.sets.items l.row
