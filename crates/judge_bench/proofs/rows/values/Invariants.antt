use Rattle.std.proofs.Common.{◌≡◌, ◌≤◌, ◌^◌, length, ℕ}
use Rattle.std.specs.List.{All}
use Rattle.judge_bench.proofs.rows.values.Given as goal

abbrev pub invariant-loop-place : goal.invariant-loop-place
invariant-loop-place l = record { whole : length l.values.items ≡ l._place; each : All (λ (value : ℕ). value ≤ 10 ^ 12) l.values.items }
