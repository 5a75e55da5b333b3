use Rattle.mz_num.proofs.PieceLaws.{pieces_more}
use Rattle.mz_gen.specs.Features.{contrib_lines}
use Rattle.mz_gen.proofs.features.push_contribs.Goals as goal

pub loop-feature-preserved : goal.loop-feature-preserved
loop-feature-preserved c = pieces_more c.loop-feature.feature contrib_lines c.args.text.now.items c.loop-feature.text.items _ c.loop-feature.invariant c.in_ok-push_contribs_of.ensures
