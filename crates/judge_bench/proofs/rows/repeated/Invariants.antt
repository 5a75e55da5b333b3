use Rattle.std.proofs.Common.{◌≡◌, replicate}
use Rattle.judge_bench.proofs.rows.repeated.Given as goal

abbrev pub invariant-loop-place : goal.invariant-loop-place
invariant-loop-place l = l.values.items ≡ replicate l._place l.value
