use Rattle.std.proofs.Common.{rules, List, length, get_or, refl, sym, ap, subst, ◌∙◌, arith}
use Rattle.std.specs.Int.{w128}
use Rattle.std.specs.Prelude.{ℕ, IsTrue}
use Rattle.std.proofs.lemmas.Int.{to_z-of_z}
use Rattle.mz_model.specs.Zones.{is_allowed}
use Rattle.mz_improve.proofs.BestLaws.{best-allowed, item-allowed, judged-change, so_far-all, so_far-next, so_far-present}
use Rattle.mz_improve.proofs.best.best_zone.Goals as goal

pub loop-zone-init : goal.loop-zone-init
loop-zone-init c = (so_far-present c.args.problem.now c.args.plan.now c.args.reading.now.unit _ c.requires.agrees.unit refl, c.requires.fits)

pub judge_from-requires-clause-allowed : goal.judge_from-requires-clause-allowed
judge_from-requires-clause-allowed c = item-allowed c.args.problem.now c.args.reading.now.unit c.loop-zone.zone-index 0 _ c.allowed_zones-zone-items.ensures.zones c.loop-zone-test.true

pub loop-zone-preserved : goal.loop-zone-preserved
loop-zone-preserved c =
    let judged = c.judge_from.ensures.judged in (
      so_far-next c.args.problem.now c.args.plan.now c.args.reading.now.unit c.loop-zone.zone-index _ _ _ c.loop-zone.invariant.0
          (ap (λ (zones : List ℕ). get_or zones c.loop-zone.zone-index 0) c.allowed_zones-zone-items.ensures.zones)
          (to_z-of_z w128 c.judge_from.new.judged.change (search rules)
          ∙ judged-change c.args.problem.now c.args.plan.now c.args.reading.now.unit _ _ _ (judged.difference c.args.plan.now c.requires.legal c.requires.agrees) refl)
          c.better-best.ensures,
      c.judge_from.ensures.fits,
    )

pub returns-clause-best : goal.returns-clause-best
returns-clause-best c =
    so_far-all c.args.problem.now c.args.plan.now c.args.reading.now.unit c.loop-zone.zone-index _
    (omega (arith, ap length c.allowed_zones-zone-items.ensures.zones, c.loop-zone-test.false, c.loop-zone.auto.zone-index-end)) c.loop-zone.invariant.0

pub returns-clause-allowed : goal.returns-clause-allowed
returns-clause-allowed c =
    let best = so_far-all c.args.problem.now c.args.plan.now c.args.reading.now.unit c.loop-zone.zone-index _
    (omega (arith, ap length c.allowed_zones-zone-items.ensures.zones, c.loop-zone-test.false, c.loop-zone.auto.zone-index-end)) c.loop-zone.invariant.0 in
    subst (λ zone. IsTrue (is_allowed c.args.problem.now c.args.reading.now.unit zone)) (sym best) (best-allowed c.args.problem.now c.args.plan.now c.args.reading.now.unit c.requires.legal c.requires.well_formed.unit)
