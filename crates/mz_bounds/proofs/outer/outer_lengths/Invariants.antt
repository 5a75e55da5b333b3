use Rattle.mz_bounds.proofs.OuterLemmas.{AreOuterSoFar}
use Rattle.mz_bounds.proofs.outer.outer_lengths.Given as goal

abbrev pub invariant-loop-row : goal.invariant-loop-row
invariant-loop-row l = AreOuterSoFar l.units l.rows l.row-index l.outer.items
