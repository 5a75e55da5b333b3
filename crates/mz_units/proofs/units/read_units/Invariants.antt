use Rattle.mz_units.proofs.UnitLemmas.{AreUnitsSoFar}
use Rattle.mz_units.proofs.units.read_units.Given as goal

abbrev pub invariant-loop-row : goal.invariant-loop-row
invariant-loop-row l = AreUnitsSoFar l.width l.table l.ids l.unit_costs.items l.row
