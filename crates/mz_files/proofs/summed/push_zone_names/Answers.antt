use Rattle.mz_num.proofs.PieceLaws.{pieces_more}
use Rattle.mz_files.specs.Summed.{zone_name}
use Rattle.mz_files.proofs.summed.push_zone_names.Goals as goal

pub loop-zone-preserved : goal.loop-zone-preserved
loop-zone-preserved c = pieces_more c.loop-zone.zone (zone_name c.args.problem.now) c.args.text.now.items c.loop-zone.text.items _ c.loop-zone.invariant c.in_ok-push_zone_name.ensures
