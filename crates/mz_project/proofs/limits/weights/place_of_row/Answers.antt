use Rattle.std.proofs.Common.{◌-◌, Fits-le, Fits-lit}
use Rattle.mz_project.proofs.LevelLemmas.{targets-known}
use Rattle.mz_project.proofs.WeightLemmas.{overall-at, zone-at, zone-within, zone-offset}
use Rattle.mz_project.proofs.limits.weights.place_of_row.Goals as goal

pub returns-then-row-features-clause-row : goal.returns-then-row-features-clause-row
returns-then-row-features-clause-row c = overall-at c.args.region.now c.args.row c.len-features.result c.len-features.ensures c.requires.fit.targets.features.all_rows c.if-row-features.true

pub offset_bounds-as_slice-row : goal.offset_bounds-as_slice-row
offset_bounds-as_slice-row c =
    Fits-le (zone-offset c.args.region.now.targets c.args.row c.len-features.result c.len-features.ensures c.requires.fit.targets.features.all_rows c.if-row-features.false c.requires.row c.requires.fit.targets.zone_targets.few) (Fits-lit tt)

pub bounds-as_slice-row : goal.bounds-as_slice-row
bounds-as_slice-row c = zone-within c.args.region.now.targets c.as_slice.result.now c.args.row c.len-features.result c.as_slice.ensures c.len-features.ensures c.requires.fit.targets.features.all_rows c.if-row-features.false c.requires.row

pub returns-clause-feature : goal.returns-clause-feature
returns-clause-feature c =
    (targets-known c.args.region.now.targets c.as_slice.result.now _ (c.args.row - c.len-features.result) _ c.as_slice.ensures c.requires.fit.targets.zone_targets.each
    (zone-within c.args.region.now.targets c.as_slice.result.now c.args.row c.len-features.result c.as_slice.ensures c.len-features.ensures c.requires.fit.targets.features.all_rows c.if-row-features.false c.requires.row)).feature_known

pub returns-clause-row : goal.returns-clause-row
returns-clause-row c = zone-at c.args.region.now c.as_slice.result.now c.args.row c.len-features.result _ c.as_slice.ensures c.len-features.ensures c.requires.fit.targets.features.all_rows c.if-row-features.false c.requires.row
