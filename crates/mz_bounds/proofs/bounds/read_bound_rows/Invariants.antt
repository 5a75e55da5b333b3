use Rattle.mz_bounds.proofs.BoundLemmas.{AreBoundsSoFar}
use Rattle.mz_bounds.proofs.bounds.read_bound_rows.Given as goal

abbrev pub invariant-loop-row : goal.invariant-loop-row
invariant-loop-row l = AreBoundsSoFar l.units l.table l.rows.items l.row
