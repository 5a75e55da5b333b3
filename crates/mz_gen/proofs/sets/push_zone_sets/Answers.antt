use Rattle.mz_num.proofs.PieceLaws.{pieces_more}
use Rattle.mz_gen.specs.Sets.{zone_set_lines}
use Rattle.mz_gen.proofs.sets.push_zone_sets.Goals as goal

pub loop-unit-preserved : goal.loop-unit-preserved
loop-unit-preserved c = pieces_more c.loop-unit.unit zone_set_lines c.args.text.now.items c.loop-unit.text.items _ c.loop-unit.invariant c.in_ok-push_zone_set.ensures
