use Rattle.mz_targets.proofs.AmountLemmas.{AreAmountsSoFar}
use Rattle.mz_targets.proofs.amounts.read_rows.Given as goal

abbrev pub invariant-loop-row : goal.invariant-loop-row
invariant-loop-row l = AreAmountsSoFar l.units l.features l.table l.rows.items l.row
