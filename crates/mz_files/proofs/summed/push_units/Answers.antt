use Rattle.mz_num.proofs.PieceLaws.{pieces_more}
use Rattle.mz_files.specs.Summed.{summed_line}
use Rattle.mz_files.proofs.summed.push_units.Goals as goal

pub loop-unit-preserved : goal.loop-unit-preserved
loop-unit-preserved c = pieces_more c.loop-unit.unit (summed_line c.args.problem.now c.args.summed.now) c.args.text.now.items c.loop-unit.text.items _ c.loop-unit.invariant c.in_ok-push_unit.ensures
