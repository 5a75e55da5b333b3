use Rattle.std.proofs.Common.{arith}
use Rattle.mz_cool.proofs.StepLemmas.{steps-are}
use Rattle.mz_cool.proofs.stairs.steps_from.Goals as goal

pub returns-else-from-heights : goal.returns-else-from-heights
returns-else-from-heights c = steps-are c.args.word c.loop-steps.steps c.loop-steps.invariant.few c.loop-steps.invariant.above
    (λ near. omega (arith, c.requires.heights.each c.loop-steps.steps near, c.if-from-heights.false, c.from.ensures))

pub returns-after-loop-steps : goal.returns-after-loop-steps
returns-after-loop-steps c = steps-are c.args.word c.loop-steps.steps c.loop-steps.invariant.few c.loop-steps.invariant.above
    (λ near. absurd (omega (arith, near, c.loop-steps-test.false)))
