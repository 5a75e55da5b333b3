use Rattle.mz_bounds.proofs.ZoneBoundLemmas.{AreListedSoFar}
use Rattle.mz_bounds.proofs.zone_bounds.read_zone_bounds.Given as goal

abbrev pub invariant-loop-row : goal.invariant-loop-row
invariant-loop-row l = AreListedSoFar l.zones l.table l.listed.items l.row
