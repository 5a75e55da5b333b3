use Rattle.std.proofs.Common.{◌≡◌, length}
use Rattle.judge_bench.proofs.rows.no_names.Given as goal

abbrev pub invariant-loop-place : goal.invariant-loop-place
invariant-loop-place l = length l.names.items ≡ l._place
