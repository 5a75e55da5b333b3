use Rattle.mz_num.proofs.PieceLaws.{pieces_more}
use Rattle.mz_gen.specs.Bounds.{boundary_lines}
use Rattle.mz_gen.proofs.bounds.push_bounds.Goals as goal

pub loop-unit-preserved : goal.loop-unit-preserved
loop-unit-preserved c = pieces_more c.loop-unit.unit (boundary_lines c.args.units) c.args.text.now.items c.loop-unit.text.items _ c.loop-unit.invariant c.in_ok-push_bounds_of.ensures
