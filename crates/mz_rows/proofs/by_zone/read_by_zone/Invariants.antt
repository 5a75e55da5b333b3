use Rattle.mz_rows.proofs.ByZoneLemmas.{AreNumbersSoFar}
use Rattle.mz_rows.proofs.by_zone.read_by_zone.Given as goal

abbrev pub invariant-loop-row : goal.invariant-loop-row
invariant-loop-row l = AreNumbersSoFar l.zones l.things l.table l.listed.items l.numbers.items l.row
