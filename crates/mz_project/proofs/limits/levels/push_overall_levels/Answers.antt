use Rattle.mz_project.proofs.LevelLemmas.{feature-known, in_totals, overall-more, total-le}
use Rattle.mz_project.proofs.limits.levels.push_overall_levels.Goals as goal

pub bounds-totals-feature : goal.bounds-totals-feature
bounds-totals-feature c =
    in_totals c.args.region.now.targets c.args.totals.now c.loop-feature.feature c.requires.totals
    (feature-known c.args.region.now.targets _ c.loop-feature.feature c.as_slice-features.ensures c.requires.fit.targets.features.all_rows c.loop-feature-test.true)

pub overall_level-requires-clause-total : goal.overall_level-requires-clause-total
overall_level-requires-clause-total c =
    total-le c.args.region.now.targets c.args.totals.now c.loop-feature.feature c.requires.totals c.requires.small
    (feature-known c.args.region.now.targets _ c.loop-feature.feature c.as_slice-features.ensures c.requires.fit.targets.features.all_rows c.loop-feature-test.true)

pub loop-feature-preserved : goal.loop-feature-preserved
loop-feature-preserved c =
    overall-more c.args.region.now.targets c.as_slice-features.result.now c.args.totals.now c.args.levels.now.items c.loop-feature.levels.items c.push.new.self.items c.loop-feature.feature c.overall_level.result c.as_slice-features.ensures c.requires.totals
    (feature-known c.args.region.now.targets _ c.loop-feature.feature c.as_slice-features.ensures c.requires.fit.targets.features.all_rows c.loop-feature-test.true) c.overall_level.ensures c.loop-feature.invariant c.in_ok-push.ensures.items
