use Rattle.std.proofs.Common.{refl}
use Rattle.mz_state.proofs.MoveRowLaws.{next-set, next-skip, rows-done, rows-none}
use Rattle.mz_state.proofs.standing.move_rows.Goals.{then-index-moved, else-index-moved}
use Rattle.mz_state.proofs.standing.move_rows.Goals as goal

pub loop-i-init : goal.loop-i-init
loop-i-init c = rows-none c.args.problem.now c.args.plan.now c.args.judged.now c.args.count _ _ c.requires.totals c.requires.rows

pub loop-i-preserved : goal.loop-i-preserved
loop-i-preserved c = elim c.if-index-moved.branch [
  | then-index-moved w ↦ rw (w.totals-is, w.versions-is) (next-set c.args.problem.now c.args.plan.now c.args.judged.now c.args.count c.loop-i.i _ _ _ _ _ _ _ _ _ _ _ c.requires.moves c.as_slice-moved.ensures c.index.ensures c.touches-touches.ensures.touches c.loop-i-test.true c.loop-i.invariant w.if-index-moved.true refl refl)
  | else-index-moved w ↦ rw (w.totals-is, w.versions-is) (next-skip c.args.problem.now c.args.plan.now c.args.judged.now c.args.count c.loop-i.i _ _ _ _ _ _ _ _ _ _ _ c.requires.moves c.as_slice-moved.ensures c.index.ensures c.touches-touches.ensures.touches c.loop-i-test.true c.loop-i.invariant w.if-index-moved.false refl refl)
]

pub returns-clause-totals : goal.returns-clause-totals
returns-clause-totals c = (rows-done c.args.problem.now c.args.plan.now c.args.judged.now c.args.count c.loop-i.i _ _ _ _ c.touches-touches.ensures.valid c.requires.moves c.touches-touches.ensures.touches c.loop-i-test.false c.loop-i.invariant).totals_are

pub returns-clause-rows : goal.returns-clause-rows
returns-clause-rows c = (rows-done c.args.problem.now c.args.plan.now c.args.judged.now c.args.count c.loop-i.i _ _ _ _ c.touches-touches.ensures.valid c.requires.moves c.touches-touches.ensures.touches c.loop-i-test.false c.loop-i.invariant).versions_are
