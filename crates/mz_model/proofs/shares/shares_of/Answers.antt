use Rattle.std.proofs.Common.{◌≡◌, ◌*◌, ap, length, arith}
use Rattle.mz_model.specs.Parts.{feature_count, zone_count}
use Rattle.mz_model.proofs.ShareLaws.{share-read, shares-all, shares-more}
use Rattle.mz_model.proofs.shares.shares_of.Goals as goal

pub loop-place-preserved : goal.loop-place-preserved
loop-place-preserved c =
    shares-more c.args.parts.now c.loop-place.place _ c.loop-place.shares.items c.push.new.self.items c.loop-place.invariant
    (share-read c.args.parts.now c.as_slice-fractions.result.now c.len-zones.result c.len-features.result c.loop-place.place c.len-zones.ensures c.len-features.ensures c.as_slice-fractions.ensures)
    c.in_ok-push.ensures.items

pub returns : goal.returns
returns c =
    let all : c.loop-place.place ≡ zone_count c.args.parts.now * feature_count c.args.parts.now = omega (arith, ap length c.as_slice-fractions.ensures, c.requires.fractions) in
    shares-all c.args.parts.now c.loop-place.place c.loop-place.shares.items all c.loop-place.invariant
