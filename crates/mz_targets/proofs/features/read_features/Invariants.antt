use Rattle.mz_targets.proofs.FeatureLemmas.{AreFeaturesSoFar}
use Rattle.mz_targets.proofs.features.read_features.Given as goal

abbrev pub invariant-loop-row : goal.invariant-loop-row
invariant-loop-row l = AreFeaturesSoFar l.table l.ids l.names.items l.rows.items l.row
