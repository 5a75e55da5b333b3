use Rattle.mz_num.proofs.PieceLaws.{pieces_more}
use Rattle.mz_files.specs.Summed.{count_field}
use Rattle.mz_files.proofs.summed.push_counts.Goals as goal

pub loop-zone-preserved : goal.loop-zone-preserved
loop-zone-preserved c = pieces_more c.loop-zone.zone (count_field c.args.summed.now c.args.unit) c.args.text.now.items c.loop-zone.text.items _ c.loop-zone.invariant c.in_ok-push_count.ensures
