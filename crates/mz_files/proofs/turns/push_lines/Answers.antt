use Rattle.mz_num.proofs.PieceLaws.{pieces_more}
use Rattle.mz_files.specs.Turns.{turn_line}
use Rattle.mz_files.proofs.turns.push_lines.Goals as goal

pub loop-line-preserved : goal.loop-line-preserved
loop-line-preserved c = pieces_more c.loop-line.line (turn_line c.args.turns.now) c.args.text.now.items c.loop-line.text.items _ c.loop-line.invariant c.in_ok-push_line.ensures
