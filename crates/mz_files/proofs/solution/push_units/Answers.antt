use Rattle.mz_num.proofs.PieceLaws.{pieces_more}
use Rattle.mz_files.specs.Solution.{unit_line}
use Rattle.mz_files.proofs.solution.push_units.Goals as goal

pub loop-unit-preserved : goal.loop-unit-preserved
loop-unit-preserved c = pieces_more c.loop-unit.unit (unit_line c.args.problem.now c.args.plan.now) c.args.text.now.items c.loop-unit.text.items _ c.loop-unit.invariant c.in_ok-push_unit.ensures
