use Rattle.mz_project.proofs.LevelLemmas.{in_totals, targets-known, total-le, zone-more}
use Rattle.mz_project.proofs.limits.levels.push_zone_levels.Goals as goal

pub bounds-totals-target : goal.bounds-totals-target
bounds-totals-target c =
    in_totals c.args.region.now.targets c.args.totals.now _ c.requires.totals
    (targets-known c.args.region.now.targets c.as_slice-target-items.result.now _ c.loop-target.target-index _ c.as_slice-target-items.ensures c.requires.fit.targets.zone_targets.each c.loop-target-test.true).feature_known

pub level_of-requires-clause-total : goal.level_of-requires-clause-total
level_of-requires-clause-total c =
    total-le c.args.region.now.targets c.args.totals.now _ c.requires.totals c.requires.small
    (targets-known c.args.region.now.targets c.as_slice-target-items.result.now _ c.loop-target.target-index _ c.as_slice-target-items.ensures c.requires.fit.targets.zone_targets.each c.loop-target-test.true).feature_known

pub loop-target-preserved : goal.loop-target-preserved
loop-target-preserved c =
    zone-more c.args.region.now.targets c.as_slice-target-items.result.now c.args.totals.now c.args.levels.now.items c.loop-target.levels.items c.push.new.self.items c.loop-target.target-index c.level_of.result _ c.as_slice-target-items.ensures c.requires.totals c.loop-target-test.true
    (targets-known c.args.region.now.targets c.as_slice-target-items.result.now _ c.loop-target.target-index _ c.as_slice-target-items.ensures c.requires.fit.targets.zone_targets.each c.loop-target-test.true).feature_known
    c.level_of.ensures c.loop-target.invariant c.in_ok-push.ensures.items
