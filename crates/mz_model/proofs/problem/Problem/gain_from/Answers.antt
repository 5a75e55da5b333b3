use Rattle.std.proofs.Common.{◌≤◌, ◌*◌, ◌^◌, ◌∙◌, ap, sym, subst, ◌==◌}
use Rattle.std.proofs.lemmas.Bool.{cond-true, cond-false, eq-eqb, ne_eqb}
use Rattle.mz_num.specs.Round.{round}
use Rattle.mz_model.proofs.TargetLaws.{gain_from-overall, gain_from-own}
use Rattle.mz_model.proofs.problem.Problem.gain_from.Goals as goal

pub by_millionths-requires : goal.by_millionths-requires
by_millionths-requires c = rw c.fraction.ensures (subst (λ n. n ≤ 10 ^ 18) (gain_from-overall c.args.self.now c.args.t c.args.amount c.args.zone c.target-target.result c.target-target.ensures.row c.in-None.is) c.requires.fits)

pub returns-then-zone-own : goal.returns-then-zone-own
returns-then-zone-own c = sym (gain_from-own c.args.self.now c.args.t c.args.amount c.args.zone c.in-Some.own c.target-target.result c.target-target.ensures.row c.in-Some.is ∙ cond-true (c.args.zone == c.in-Some.own) c.args.amount 0 (eq-eqb c.args.zone c.in-Some.own c.if-zone-own.true))

pub returns-else-zone-own : goal.returns-else-zone-own
returns-else-zone-own c = sym (gain_from-own c.args.self.now c.args.t c.args.amount c.args.zone c.in-Some.own c.target-target.result c.target-target.ensures.row c.in-Some.is ∙ cond-false (c.args.zone == c.in-Some.own) c.args.amount 0 (ne_eqb c.args.zone c.in-Some.own c.if-zone-own.false))

pub returns-in-None : goal.returns-in-None
returns-in-None c = c.by_millionths.ensures ∙ ap (λ f. round (c.args.amount * f) 1000000) c.fraction.ensures ∙ sym (gain_from-overall c.args.self.now c.args.t c.args.amount c.args.zone c.target-target.result c.target-target.ensures.row c.in-None.is)
