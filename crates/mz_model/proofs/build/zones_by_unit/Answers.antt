use Rattle.std.proofs.Common.{◌≡◌, ◌∙◌, ap, get_or}
use Rattle.mz_model.specs.Zones.{allowed_zones}
use Rattle.mz_model.proofs.ListLaws.{table-more}
use Rattle.mz_model.proofs.ZoneLaws.{allowed_zones-is}
use Rattle.mz_model.proofs.build.zones_by_unit.Goals as goal

pub loop-set-preserved : goal.loop-set-preserved
loop-set-preserved c =
    let zones : c.as_slice.result.now ≡ allowed_zones c.args.parts.now c.loop-set.set-index =
    allowed_zones-is c.args.parts.now c.loop-set.set-index c.len-count.result (get_or c.as_slice-sets.result.now c.loop-set.set-index 0) c.as_slice.result.now c.len-count.ensures (ap (λ sets. get_or sets c.loop-set.set-index 0) c.as_slice-sets.ensures) (c.as_slice.ensures.value ∙ c.in_ok-add_zones.ensures) in
    table-more c.loop-set.set-index (allowed_zones c.args.parts.now) c.loop-set.zones c.push.new.self c.as_slice.result.now c.loop-set.invariant zones c.in_ok-push.ensures
