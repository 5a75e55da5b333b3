use Rattle.std.proofs.Common.{◌∙◌}
use Rattle.mz_model.specs.Move.{moved_plan}
use Rattle.mz_improve.proofs.TotalLaws.{done-all, done-inside, done-next, done-none}
use Rattle.mz_improve.proofs.moves.move_totals.Goals as goal

pub loop-i-init : goal.loop-i-init
loop-i-init c = done-none c.args.problem.now c.args.plan.now (moved_plan c.args.plan.now c.args.judged.now.unit c.args.judged.now.new) _ c.requires.totals

pub bounds-totals-touch : goal.bounds-totals-touch
bounds-totals-touch c = done-inside c.args.problem.now c.args.plan.now (moved_plan c.args.plan.now c.args.judged.now.unit c.args.judged.now.new) _ c.args.judged.now.unit c.loop-i.i _ _ _ c.touches-touches.ensures.touches c.loop-i-test.true c.loop-i.invariant

pub loop-i-preserved : goal.loop-i-preserved
loop-i-preserved c =
    done-next c.args.problem.now c.args.plan.now (moved_plan c.args.plan.now c.args.judged.now.unit c.args.judged.now.new) c.args.judged.now.unit c.loop-i.i _ _ _ _ _
    c.touches-touches.ensures.touches (c.as_slice-moved.ensures ∙ c.requires.difference.totals) c.loop-i-test.true c.loop-i.invariant

pub returns-clause-totals : goal.returns-clause-totals
returns-clause-totals c = done-all c.args.problem.now c.args.plan.now _ c.args.judged.now.unit c.args.judged.now.new c.loop-i.i _ c.touches-touches.ensures.valid c.requires.legal c.requires.unit c.requires.allowed c.touches-touches.ensures.touches c.loop-i-test.false c.loop-i.invariant
