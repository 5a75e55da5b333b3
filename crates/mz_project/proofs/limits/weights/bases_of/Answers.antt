use Rattle.std.proofs.Common.{sym}
use Rattle.std.proofs.lemmas.Result.{IfOk-weaker}
use Rattle.mz_project.proofs.HolderLemmas.{own-holders, holders-in_range, holders-positive, holders-rising, in_holders}
use Rattle.mz_project.proofs.RawLemmas.{length-raw, raw-within}
use Rattle.mz_project.proofs.WeightLemmas.{bases-are}
use Rattle.mz_project.proofs.limits.weights.bases_of.Goals as goal

pub at-requires : goal.at-requires
at-requires c = in_holders c.args.region.now.targets c.args.by_feature.now c.args.feature c.requires.by_feature c.requires.feature

pub of-requires-clause-in_range : goal.of-requires-clause-in_range
of-requires-clause-in_range c =
    holders-in_range c.args.region.now.targets.amounts c.at.result.now _ _ _ c.args.feature _ (own-holders c.args.region.now.targets c.args.by_feature.now c.at.result.now c.args.feature c.requires.by_feature c.requires.feature c.at.ensures)
    (sym (length-raw c.args.region.now.area c.args.raw.now c.requires.raw)) c.requires.fit.targets.amounts.each

pub of-requires-clause-rising : goal.of-requires-clause-rising
of-requires-clause-rising c =
    holders-rising c.args.region.now.targets.amounts c.at.result.now c.args.feature (own-holders c.args.region.now.targets c.args.by_feature.now c.at.result.now c.args.feature c.requires.by_feature c.requires.feature c.at.ensures) c.requires.fit.targets.amounts.in_order

pub of-requires-clause-positive : goal.of-requires-clause-positive
of-requires-clause-positive c =
    holders-positive c.args.region.now.targets.amounts c.at.result.now _ _ _ c.args.feature (own-holders c.args.region.now.targets c.args.by_feature.now c.at.result.now c.args.feature c.requires.by_feature c.requires.feature c.at.ensures)
    c.requires.fit.targets.amounts.each

pub of-requires-clause-costs : goal.of-requires-clause-costs
of-requires-clause-costs c = raw-within c.args.region.now.area c.args.raw.now c.requires.fit.area c.requires.costs c.requires.raw

pub returns : goal.returns
returns c =
    IfOk-weaker c.of.result _ _
    (λ bases is. bases-are c.args.region.now c.args.raw.now c.at.result.now c.args.feature bases c.requires.raw
    (own-holders c.args.region.now.targets c.args.by_feature.now c.at.result.now c.args.feature c.requires.by_feature c.requires.feature c.at.ensures) is) c.of.ensures
