use Rattle.std.proofs.Common.{◌≡◌, refl, ap, arith}
use Rattle.mz_project.specs.Gains.{greatest_gain}
use Rattle.mz_project.specs.TargetRows.{overall_row}
use Rattle.mz_project.proofs.AmountLemmas.{in-holders}
use Rattle.mz_project.proofs.GainLemmas.{amounts-small, gain-above, gain-is, gains-more, gains-within, holders-few, part-small}
use Rattle.mz_project.proofs.limits.gains.limited_gains.Goals as goal

pub at-requires : goal.at-requires
at-requires c = omega (arith, c.loop-feature-test.true, c.len-features.ensures.len, in-holders c.args.region.now.targets c.args.by_feature.now.holders (ap (λ h. h.holders) c.requires.by_feature))

pub gained-requires-clause-few : goal.gained-requires-clause-few
gained-requires-clause-few c =
    holders-few c.args.region.now c.args.by_feature.now c.at.result.now c.len-features.result c.loop-feature.feature c.requires.fit c.requires.by_feature c.len-features.ensures.len c.loop-feature-test.true c.at.ensures

pub gained-requires-clause-amounts : goal.gained-requires-clause-amounts
gained-requires-clause-amounts c =
    amounts-small c.args.region.now c.args.by_feature.now c.at.result.now c.len-features.result c.loop-feature.feature c.requires.by_feature c.requires.totals c.len-features.ensures.len c.loop-feature-test.true c.at.ensures

pub gained-requires-clause-part : goal.gained-requires-clause-part
gained-requires-clause-part c =
    part-small c.args.region.now c.as_slice-fractions.result.now c.len-features.result c.len-zones.result c.loop-feature.feature c.greatest_fraction-part.result c.requires.fit c.as_slice-fractions.ensures c.len-features.ensures.len c.len-zones.ensures.len
    c.loop-feature-test.true c.greatest_fraction-part.ensures

pub returns-then-gained-from : goal.returns-then-gained-from
returns-then-gained-from c =
    let gain : c.gained.result ≡ greatest_gain c.args.region.now (overall_row c.args.region.now c.loop-feature.feature)
    = gain-is c.args.region.now c.args.by_feature.now c.as_slice-fractions.result.now c.at.result.now c.len-features.result c.len-zones.result c.loop-feature.feature c.greatest_fraction-part.result c.gained.result
    c.requires.fit c.requires.by_feature c.as_slice-fractions.ensures c.len-features.ensures.len c.len-zones.ensures.len c.loop-feature-test.true c.greatest_fraction-part.ensures c.at.ensures c.gained.ensures in
    (gain-above c.args.region.now c.loop-feature.feature (omega (arith, c.loop-feature-test.true, c.len-features.ensures.len)) (omega (arith, gain, c.from.ensures, c.if-gained-from.true)), refl)

pub loop-feature-preserved : goal.loop-feature-preserved
loop-feature-preserved c =
    let gain : c.gained.result ≡ greatest_gain c.args.region.now (overall_row c.args.region.now c.loop-feature.feature)
    = gain-is c.args.region.now c.args.by_feature.now c.as_slice-fractions.result.now c.at.result.now c.len-features.result c.len-zones.result c.loop-feature.feature c.greatest_fraction-part.result c.gained.result
    c.requires.fit c.requires.by_feature c.as_slice-fractions.ensures c.len-features.ensures.len c.len-zones.ensures.len c.loop-feature-test.true c.greatest_fraction-part.ensures c.at.ensures c.gained.ensures in
    gains-more c.args.region.now c.loop-feature.feature c.loop-feature.invariant (omega (arith, gain, c.from.ensures, c.if-gained-from.false))

pub returns : goal.returns
returns c =
    (gains-within c.args.region.now c.requires.fit c.requires.totals (λ k known. c.loop-feature.invariant k (omega (arith, known, c.len-features.ensures.len, c.loop-feature-test.false))), refl)
