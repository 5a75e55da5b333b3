use Rattle.std.proofs.Common.{◌==◌, ◌∙◌, sym}
use Rattle.std.specs.Int.{bit_at}
use Rattle.std.proofs.lemmas.Bool.{eq-eqb, ne_eqb}
use Rattle.std.proofs.lemmas.Nat.Bits.{shr_and_one}
use Rattle.mz_num.proofs.PlaceLaws.{places_below-passed, places_below-failed}
use Rattle.mz_model.proofs.build.add_zones.Goals as goal
use Rattle.mz_model.proofs.build.add_zones.Goals.{then-set-zone-eq1+in_ok-push, else-set-zone-eq1}

pub loop-zone-preserved : goal.loop-zone-preserved
loop-zone-preserved c =
    elim c.if-set-zone-eq1.branch [
      | then-set-zone-eq1+in_ok-push w ↦ places_below-passed c.loop-zone.zone (λ zone. bit_at c.args.set zone == 1) c.loop-zone.list.items c.if-set-zone-eq1.list.items c.loop-zone.invariant (eq-eqb _ 1 (sym (shr_and_one c.args.set c.loop-zone.zone) ∙ w.if-set-zone-eq1.true)) (rw w.list-is w.in_ok-push.ensures.items)
      | else-set-zone-eq1 w ↦ rw w.list-is (places_below-failed c.loop-zone.zone (λ zone. bit_at c.args.set zone == 1) c.loop-zone.list.items c.loop-zone.invariant (ne_eqb _ 1 (λ set. w.if-set-zone-eq1.false (shr_and_one c.args.set c.loop-zone.zone ∙ set))))
    ]
