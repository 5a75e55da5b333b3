use Rattle.judge_bench.proofs.RowLaws.{AreFirst}
use Rattle.judge_bench.proofs.rows.rows.Given as goal

abbrev pub invariant-loop-place : goal.invariant-loop-place
invariant-loop-place l = AreFirst l._place l.least l.firsts l.seconds l.rows.items
