use Rattle.std.proofs.Common.{◌+◌, [], get_or}
use Rattle.mz_units.proofs.UnitLemmas.{AreCostsSoFar}
use Rattle.mz_units.proofs.units.read_unit_costs.Given as goal

abbrev pub invariant-loop-place : goal.invariant-loop-place
invariant-loop-place l = AreCostsSoFar (l.row + 2) (get_or l.table l.row []) l.costs.items l.place
