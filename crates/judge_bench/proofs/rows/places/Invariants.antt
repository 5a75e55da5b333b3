use Rattle.std.proofs.Common.{◌≡◌, ℕ}
use Rattle.mz_num.specs.Places.{list_below}
use Rattle.judge_bench.proofs.rows.places.Given as goal

abbrev pub invariant-loop-place : goal.invariant-loop-place
invariant-loop-place l = l.places.items ≡ list_below l.place (λ (place : ℕ). place)
