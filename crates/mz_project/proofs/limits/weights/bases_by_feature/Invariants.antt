use Rattle.mz_project.specs.Bases.{AreBases}
use Rattle.mz_project.proofs.limits.weights.bases_by_feature.Given as goal

abbrev pub invariant-loop-feature : goal.invariant-loop-feature
invariant-loop-feature l = AreBases l.region l.feature l.bases.items
