use Rattle.std.proofs.Common.{sym, subst}
use Rattle.judge_bench.proofs.RowLaws.{AreFirst, no_rows}
use Rattle.judge_bench.proofs.rows.rows.Goals as goal

pub loop-place-init : goal.loop-place-init
loop-place-init c = subst (AreFirst 0 0 c.args.firsts c.args.seconds) (sym c.new-rows.ensures.items) (no_rows 0 c.args.firsts c.args.seconds)
