use Rattle.mz_num.proofs.PieceLaws.{pieces_more}
use Rattle.mz_files.specs.Missing.{missing_line}
use Rattle.mz_files.proofs.missing.push_rows.Goals as goal

pub loop-row-preserved : goal.loop-row-preserved
loop-row-preserved c = pieces_more c.loop-row.row (missing_line c.args.problem.now c.args.totals.now c.args.level) c.args.text.now.items c.loop-row.text.items _ c.loop-row.invariant c.in_ok-push_row.ensures
