use Rattle.mz_num.proofs.PieceLaws.{pieces_more}
use Rattle.mz_gen.specs.Units.{amount_lines}
use Rattle.mz_gen.proofs.units.push_amounts.Goals as goal

pub loop-unit-preserved : goal.loop-unit-preserved
loop-unit-preserved c = pieces_more c.loop-unit.unit (amount_lines c.args.features c.args.words.now) c.args.text.now.items c.loop-unit.text.items _ c.loop-unit.invariant c.in_ok-push_amounts_of.ensures
