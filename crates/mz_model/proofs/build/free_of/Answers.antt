use Rattle.std.proofs.Common.{◌≡◌, ◌∙◌, arith}
use Rattle.mz_model.specs.Parts.{unit_count}
use Rattle.mz_model.specs.Zones.{allowed_zones, is_free}
use Rattle.mz_model.proofs.ListLaws.{table-row}
use Rattle.mz_num.proofs.PlaceLaws.{places_below-passed, places_below-failed}
use Rattle.mz_model.proofs.ZoneLaws.{is_free-many, is_free-few, free_units-is}
use Rattle.mz_model.proofs.build.free_of.Goals as goal
use Rattle.mz_model.proofs.build.free_of.Goals.{then-at-gt1+in_ok-push, else-at-gt1}

pub at-requires : goal.at-requires
at-requires c = (table-row c.args.zones.now (unit_count c.args.parts.now) (allowed_zones c.args.parts.now) c.loop-unit.unit c.requires.zones (omega (arith, c.len-unit-end.ensures))).inside

pub loop-unit-preserved : goal.loop-unit-preserved
loop-unit-preserved c =
    let zones : c.at.result.now ≡ allowed_zones c.args.parts.now c.loop-unit.unit = c.at.ensures ∙ (table-row c.args.zones.now (unit_count c.args.parts.now) (allowed_zones c.args.parts.now) c.loop-unit.unit c.requires.zones (omega (arith, c.len-unit-end.ensures))).is in
    elim c.if-at-gt1.branch [
      | then-at-gt1+in_ok-push w ↦ places_below-passed c.loop-unit.unit (is_free c.args.parts.now) c.loop-unit.free.items c.if-at-gt1.free.items c.loop-unit.invariant (is_free-many c.args.parts.now c.loop-unit.unit c.at.result.now zones w.if-at-gt1.true) (rw w.free-is w.in_ok-push.ensures.items)
      | else-at-gt1 w ↦ rw w.free-is (places_below-failed c.loop-unit.unit (is_free c.args.parts.now) c.loop-unit.free.items c.loop-unit.invariant (is_free-few c.args.parts.now c.loop-unit.unit c.at.result.now zones w.if-at-gt1.false))
    ]

pub returns : goal.returns
returns c = free_units-is c.args.parts.now c.loop-unit.unit c.loop-unit.free.items (omega (arith, c.len-unit-end.ensures)) c.loop-unit.invariant
