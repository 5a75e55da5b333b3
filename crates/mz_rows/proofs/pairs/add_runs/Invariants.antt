use Rattle.mz_rows.proofs.RunLemmas.{AreAddedSoFar}
use Rattle.mz_rows.proofs.pairs.add_runs.Given as goal

abbrev pub invariant-loop-row : goal.invariant-loop-row
invariant-loop-row l = AreAddedSoFar l.rows l.row-index l.sums.items
