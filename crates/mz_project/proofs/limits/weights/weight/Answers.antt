use Rattle.mz_project.proofs.WeightLemmas.{base-at, in-bases, weight-is}
use Rattle.mz_project.proofs.limits.weights.weight.Goals as goal

pub bounds-bases-feature : goal.bounds-bases-feature
bounds-bases-feature c = in-bases c.args.region.now c.args.bases.now c.args.feature c.requires.bases c.requires.feature

pub returns : goal.returns
returns c =
    weight-is c.args.region.now c.as_slice.result.now c.args.bases.now c.args.feature c.args.level c.at.result c.weight_of.result c.as_slice.ensures c.requires.bases c.requires.feature
    (base-at c.args.bases.now c.args.feature c.args.level c.at.result _ (in-bases c.args.region.now c.args.bases.now c.args.feature c.requires.bases c.requires.feature) c.index-bases-feature.is c.at.ensures) c.weight_of.ensures
