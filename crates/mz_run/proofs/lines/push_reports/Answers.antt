use Rattle.mz_run.specs.Lines.{report_line}
use Rattle.mz_num.proofs.PieceLaws.{pieces_more}
use Rattle.mz_run.proofs.lines.push_reports.Goals as goal

pub loop-place-preserved : goal.loop-place-preserved
loop-place-preserved c = pieces_more c.loop-place.place (report_line c.args.reports.now) c.args.text.now.items c.loop-place.text.items _ c.loop-place.invariant c.in_ok-push_report.ensures
