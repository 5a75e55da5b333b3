use Rattle.std.proofs.Common.{rules, ◌∙◌, ap, sym}
use Rattle.std.proofs.lemmas.List.Sorted.{answers_always}
use Rattle.mz_model.specs.declared.touch.Touch.{Touch}
use Rattle.mz_model.specs.Targets.{gain_of}
use Rattle.mz_model.proofs.TouchLaws.{found-row, gain_of-untouched, no-row, touches-searchable}
use Rattle.mz_model.proofs.problem.Problem.gain.Goals as goal

pub returns-in-Ok-clause-gain : goal.returns-in-Ok-clause-gain
returns-in-Ok-clause-gain c =
    let found = c.in-Ok.ensures.position (λ (touch : Touch). touch.row) (answers_always _ _ _ (λ f a r g called. search rules)) in
    c.touched_gain.ensures.gain ∙ ap (λ row. gain_of c.args.self.now row c.args.unit c.args.zone) (found-row c.args.self.now c.args.unit c.args.t c.in-Ok.i c.touches.result.now c.touches.ensures.touches c.in-Ok.ensures.bound found)

pub returns-in-Err-clause-gain : goal.returns-in-Err-clause-gain
returns-in-Err-clause-gain c =
    let parted = c.in-Err.ensures.position (λ (touch : Touch). touch.row) (answers_always _ _ _ (λ f a r g called. search rules)) (touches-searchable c.args.self.now c.args.unit c.args.t c.touches.result.now c.touches.ensures.touches) in
    sym (gain_of-untouched c.args.self.now c.args.t c.args.unit c.args.zone c.requires.row c.requires.zone (no-row c.args.self.now c.args.unit c.args.t c.in-Err.field-0 c.touches.result.now c.touches.ensures.touches parted))
