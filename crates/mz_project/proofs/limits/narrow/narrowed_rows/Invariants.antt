use Rattle.std.proofs.Common.{ℕ, ◌≡◌, ◌≤◌, ◌^◌, take}
use Rattle.std.specs.List.{All}
use Rattle.mz_project.proofs.limits.narrow.narrowed_rows.Given as goal

abbrev pub invariant-loop-first : goal.invariant-loop-first
invariant-loop-first l = record {
  same : l.narrow.items ≡ take l.first-index l.rows;
  small : All (λ (row : ℕ × ℕ × ℕ). row.2 ≤ 10 ^ 18) l.narrow.items;
}
