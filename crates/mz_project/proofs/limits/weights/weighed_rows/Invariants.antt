use Rattle.mz_project.specs.TargetRows.{target_rows_of}
use Rattle.mz_project.proofs.WeightLemmas.{AreLight}
use Rattle.mz_project.proofs.limits.weights.weighed_rows.Given as goal

abbrev pub invariant-loop-row : goal.invariant-loop-row
invariant-loop-row l = AreLight (target_rows_of l.region) l.row l.rows.items
