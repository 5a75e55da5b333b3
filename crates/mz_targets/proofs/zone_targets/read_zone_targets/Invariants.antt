use Rattle.mz_targets.proofs.ZoneTargetLemmas.{AreTargetsSoFar}
use Rattle.mz_targets.proofs.zone_targets.read_zone_targets.Given as goal

abbrev pub invariant-loop-row : goal.invariant-loop-row
invariant-loop-row l = AreTargetsSoFar l.zones l.features l.table l.listed.items l.targets.items l.row
