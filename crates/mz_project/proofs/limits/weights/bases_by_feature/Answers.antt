use Rattle.mz_project.proofs.WeightLemmas.{bases-more, no-bases}
use Rattle.mz_project.proofs.limits.weights.bases_by_feature.Goals as goal

pub loop-feature-init : goal.loop-feature-init
loop-feature-init c = no-bases _ _ c.new-bases.ensures.items

pub loop-feature-preserved : goal.loop-feature-preserved
loop-feature-preserved c = bases-more _ _ _ _ _ c.loop-feature.invariant c.in_ok-push.ensures.items c.in_ok-of_feature.ensures
