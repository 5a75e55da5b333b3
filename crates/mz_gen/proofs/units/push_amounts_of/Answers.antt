use Rattle.mz_num.proofs.PieceLaws.{pieces_more}
use Rattle.mz_gen.specs.Units.{amount_line}
use Rattle.mz_gen.proofs.units.push_amounts_of.Goals as goal

pub loop-feature-preserved : goal.loop-feature-preserved
loop-feature-preserved c = pieces_more c.loop-feature.feature (amount_line c.args.words.now c.args.unit) c.args.text.now.items c.loop-feature.text.items _ c.loop-feature.invariant c.in_ok-push_amount.ensures
