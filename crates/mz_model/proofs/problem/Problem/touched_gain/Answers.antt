use Rattle.std.proofs.Common.{◌≤◌, ◌^◌, ◌∙◌, sym, subst}
use Rattle.mz_model.proofs.TouchLaws.{gain_from-touch, gain_of-touched-le}
use Rattle.mz_model.proofs.problem.Problem.touched_gain.Goals as goal

pub gain_from-requires-clause-fits : goal.gain_from-requires-clause-fits
gain_from-requires-clause-fits c = subst (λ n. n ≤ 10 ^ 18) (sym (gain_from-touch c.args.self.now c.args.unit c.args.i c.args.zone c.touches.result.now c.touches.ensures.touches c.requires.place)) (gain_of-touched-le c.args.self.now c.args.unit c.args.i c.args.zone c.touches.ensures.valid c.requires.unit c.requires.zone c.requires.place)

pub returns-clause-gain : goal.returns-clause-gain
returns-clause-gain c = c.gain_from.ensures ∙ gain_from-touch c.args.self.now c.args.unit c.args.i c.args.zone c.touches.result.now c.touches.ensures.touches c.requires.place

pub returns-clause-small : goal.returns-clause-small
returns-clause-small c = subst (λ n. n ≤ 10 ^ 18) (sym (c.gain_from.ensures ∙ gain_from-touch c.args.self.now c.args.unit c.args.i c.args.zone c.touches.result.now c.touches.ensures.touches c.requires.place)) (gain_of-touched-le c.args.self.now c.args.unit c.args.i c.args.zone c.touches.ensures.valid c.requires.unit c.requires.zone c.requires.place)
