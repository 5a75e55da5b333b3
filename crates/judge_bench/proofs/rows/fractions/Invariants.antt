use Rattle.std.proofs.Common.{◌≡◌, ◌≤◌, length, ℕ}
use Rattle.std.specs.List.{All}
use Rattle.judge_bench.proofs.rows.fractions.Given as goal

abbrev pub invariant-loop-place : goal.invariant-loop-place
invariant-loop-place l = record { whole : length l.fractions.items ≡ l.place; each : All (λ (fraction : ℕ). fraction ≤ 1000000) l.fractions.items }
