use Rattle.std.proofs.Common.{◌≡◌, ◌∙◌, ap, refl, get_or, length, arith}
use Rattle.mz_model.specs.Parts.{unit_count}
use Rattle.mz_model.specs.Zones.{allowed_zones}
use Rattle.mz_model.proofs.ListLaws.{table-row}
use Rattle.mz_model.proofs.ZoneLaws.{counts_of-is, counts-more, free-at, length-allowed_zones}
use Rattle.mz_model.proofs.build.counts_of_free.Goals as goal

pub at-requires : goal.at-requires
at-requires c = (table-row c.args.zones.now (unit_count c.args.parts.now) (allowed_zones c.args.parts.now) (get_or c.args.free.now c.loop-unit.unit-index 0) c.requires.zones (free-at c.args.parts.now c.args.free.now c.loop-unit.unit-index c.requires.free c.loop-unit-test.true)).inside

pub overflow_cast-at : goal.overflow_cast-at
overflow_cast-at c =
    let zones : c.at.result.now ≡ allowed_zones c.args.parts.now (get_or c.args.free.now c.loop-unit.unit-index 0) = c.at.ensures ∙ (table-row c.args.zones.now (unit_count c.args.parts.now) (allowed_zones c.args.parts.now) (get_or c.args.free.now c.loop-unit.unit-index 0) c.requires.zones (free-at c.args.parts.now c.args.free.now c.loop-unit.unit-index c.requires.free c.loop-unit-test.true)).is in
    omega (arith, ap length zones, length-allowed_zones c.args.parts.now (get_or c.args.free.now c.loop-unit.unit-index 0), c.requires.valid.small.zones)

pub loop-unit-preserved : goal.loop-unit-preserved
loop-unit-preserved c =
    let zones : c.at.result.now ≡ allowed_zones c.args.parts.now (get_or c.args.free.now c.loop-unit.unit-index 0) = c.at.ensures ∙ (table-row c.args.zones.now (unit_count c.args.parts.now) (allowed_zones c.args.parts.now) (get_or c.args.free.now c.loop-unit.unit-index 0) c.requires.zones (free-at c.args.parts.now c.args.free.now c.loop-unit.unit-index c.requires.free c.loop-unit-test.true)).is in
    counts-more c.args.parts.now c.args.free.now c.loop-unit.counts.items c.push.new.self.items c.loop-unit.unit-index (length c.at.result.now) c.at.result.now c.loop-unit-test.true c.loop-unit.invariant zones refl c.in_ok-push.ensures.items

pub returns : goal.returns
returns c = counts_of-is c.args.parts.now c.args.free.now c.loop-unit.counts.items c.loop-unit.unit-index c.requires.free c.loop-unit-test.false c.loop-unit.invariant
