use Rattle.std.proofs.Common.{◌<◌, rules, arith}
use Rattle.mz_num.specs.Limits.{most_runs}
use Rattle.mz_sums.proofs.SumLemmas.{none_counted, counted_inside, counted_room, unit_counted, all_counted}
use Rattle.mz_sums.proofs.summed.count_zones.Goals as goal

pub loop-unit-init : goal.loop-unit-init
loop-unit-init c = none_counted _ _ _ _ c.requires.places

pub index_mut-requires : goal.index_mut-requires
index_mut-requires c =
    let zone : c.zone.result < c.args.zones = rw c.zone.ensures (c.requires.zones_in_range _ 0 (search rules)) in
    omega (arith, c.loop-unit.counts.ok.0, counted_inside _ _ _ _ _ c.loop-unit.unit c.zone.result c.loop-unit.invariant c.loop-unit-test.true zone)

pub overflow_add-index_mut : goal.overflow_add-index_mut
overflow_add-index_mut c =
    let zone : c.zone.result < c.args.zones = rw c.zone.ensures (c.requires.zones_in_range _ 0 (search rules)) in
    let few : c.index_mut.result.now < most_runs = rw c.index_mut.ensures.value (counted_room _ _ _ _ _ c.loop-unit.unit c.zone.result _ _ c.requires.places c.requires.few c.loop-unit.invariant c.loop-unit-test.true zone) in
    omega (arith, few)

pub loop-unit-preserved : goal.loop-unit-preserved
loop-unit-preserved c =
    let zone : c.zone.result < c.args.zones = rw c.zone.ensures (c.requires.zones_in_range _ 0 (search rules)) in
    unit_counted _ _ _ _ c.args.plan.now c.loop-unit.unit c.zone.result _ _ c.loop-unit.invariant c.loop-unit-test.true zone c.zone.ensures c.index_mut.ensures.value

pub returns : goal.returns
returns c = all_counted _ _ _ _ _ _ (search rules) c.loop-unit.invariant
