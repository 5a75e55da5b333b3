use Rattle.mz_num.proofs.PieceLaws.{pieces_more}
use Rattle.mz_gen.specs.Sets.{lock_line}
use Rattle.mz_gen.proofs.sets.push_locks.Goals as goal

pub loop-unit-preserved : goal.loop-unit-preserved
loop-unit-preserved c = pieces_more c.loop-unit.unit lock_line c.args.text.now.items c.loop-unit.text.items _ c.loop-unit.invariant c.in_ok-push_lock.ensures
