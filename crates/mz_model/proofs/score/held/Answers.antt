use Rattle.std.proofs.Common.{◌≤◌, ◌^◌, ◌∙◌, ap, get_or, arith}
use Rattle.std.proofs.lemmas.List.{take_all}
use Rattle.mz_model.specs.Targets.{gain_from}
use Rattle.mz_model.proofs.ScoreLaws.{plan-in_range}
use Rattle.mz_model.proofs.TargetLaws.{IsGain, gain-at, gains_of, gains_of-whole, held_of-le}
use Rattle.mz_model.proofs.score.held.Goals as goal

pub gain_from-held-requires-clause-zone : goal.gain_from-held-requires-clause-zone
gain_from-held-requires-clause-zone c = rw c.zone.ensures (plan-in_range c.args.problem.now c.args.plan.now (get_or c.holders-holders.result.now c.loop-unit.unit-index (0, 0)).0 c.holders-holders.ensures.valid c.requires.legal (c.holders-holders.ensures.in_range c.loop-unit.unit-index (0, 0) c.loop-unit-test.true))

pub gain_from-held-requires-clause-fits : goal.gain_from-held-requires-clause-fits
gain_from-held-requires-clause-fits c =
    let whole : gains_of c.args.problem.now c.args.plan.now c.args.t c.holders-holders.result.now ≤ 10 ^ 18 = omega (arith, gains_of-whole c.args.problem.now c.args.plan.now c.args.t c.holders-holders.result.now c.target.result c.holders-holders.ensures.valid c.target.ensures.row c.holders-holders.ensures.holders, held_of-le c.args.problem.now c.args.plan.now c.args.t c.holders-holders.ensures.valid c.requires.row (λ unit h. plan-in_range c.args.problem.now c.args.plan.now unit c.holders-holders.ensures.valid c.requires.legal h)) in
    (gain-at c.args.problem.now c.args.plan.now c.args.t c.loop-unit.unit-index c.zone.result c.holders-holders.result.now c.loop-unit-test.true whole c.zone.ensures).small

pub overflow_add-held : goal.overflow_add-held
overflow_add-held c =
    let whole : gains_of c.args.problem.now c.args.plan.now c.args.t c.holders-holders.result.now ≤ 10 ^ 18 = omega (arith, gains_of-whole c.args.problem.now c.args.plan.now c.args.t c.holders-holders.result.now c.target.result c.holders-holders.ensures.valid c.target.ensures.row c.holders-holders.ensures.holders, held_of-le c.args.problem.now c.args.plan.now c.args.t c.holders-holders.ensures.valid c.requires.row (λ unit h. plan-in_range c.args.problem.now c.args.plan.now unit c.holders-holders.ensures.valid c.requires.legal h)) in
    let gain : IsGain c.args.problem.now c.args.plan.now c.args.t c.holders-holders.result.now c.loop-unit.unit-index (gain_from c.args.problem.now c.args.t (get_or c.holders-holders.result.now c.loop-unit.unit-index (0, 0)).1 c.zone.result) = gain-at c.args.problem.now c.args.plan.now c.args.t c.loop-unit.unit-index c.zone.result c.holders-holders.result.now c.loop-unit-test.true whole c.zone.ensures in
    omega (arith, gain.within, c.loop-unit.invariant, c.gain_from-held.ensures)

pub loop-unit-preserved : goal.loop-unit-preserved
loop-unit-preserved c =
    let whole : gains_of c.args.problem.now c.args.plan.now c.args.t c.holders-holders.result.now ≤ 10 ^ 18 = omega (arith, gains_of-whole c.args.problem.now c.args.plan.now c.args.t c.holders-holders.result.now c.target.result c.holders-holders.ensures.valid c.target.ensures.row c.holders-holders.ensures.holders, held_of-le c.args.problem.now c.args.plan.now c.args.t c.holders-holders.ensures.valid c.requires.row (λ unit h. plan-in_range c.args.problem.now c.args.plan.now unit c.holders-holders.ensures.valid c.requires.legal h)) in
    let gain : IsGain c.args.problem.now c.args.plan.now c.args.t c.holders-holders.result.now c.loop-unit.unit-index (gain_from c.args.problem.now c.args.t (get_or c.holders-holders.result.now c.loop-unit.unit-index (0, 0)).1 c.zone.result) = gain-at c.args.problem.now c.args.plan.now c.args.t c.loop-unit.unit-index c.zone.result c.holders-holders.result.now c.loop-unit-test.true whole c.zone.ensures in
    omega (arith, gain.sum, c.loop-unit.invariant, c.gain_from-held.ensures)

pub returns-clause-held : goal.returns-clause-held
returns-clause-held c = c.loop-unit.invariant ∙ ap (gains_of c.args.problem.now c.args.plan.now c.args.t) (take_all c.loop-unit.unit-index c.holders-holders.result.now c.loop-unit-test.false) ∙ gains_of-whole c.args.problem.now c.args.plan.now c.args.t c.holders-holders.result.now c.target.result c.holders-holders.ensures.valid c.target.ensures.row c.holders-holders.ensures.holders

pub returns-clause-small : goal.returns-clause-small
returns-clause-small c = omega (arith, c.loop-unit.invariant ∙ ap (gains_of c.args.problem.now c.args.plan.now c.args.t) (take_all c.loop-unit.unit-index c.holders-holders.result.now c.loop-unit-test.false) ∙ gains_of-whole c.args.problem.now c.args.plan.now c.args.t c.holders-holders.result.now c.target.result c.holders-holders.ensures.valid c.target.ensures.row c.holders-holders.ensures.holders, held_of-le c.args.problem.now c.args.plan.now c.args.t c.holders-holders.ensures.valid c.requires.row (λ unit h. plan-in_range c.args.problem.now c.args.plan.now unit c.holders-holders.ensures.valid c.requires.legal h))
