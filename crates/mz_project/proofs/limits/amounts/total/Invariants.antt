use Rattle.std.proofs.Common.{ℕ, ◌≡◌, ◌≤◌, ◌*◌, ◌^◌, take}
use Rattle.std.specs.List.{sum_by}
use Rattle.mz_project.proofs.limits.amounts.total.Given as goal

abbrev pub invariant-loop-holder : goal.invariant-loop-holder
invariant-loop-holder l = record {
  sum : l.total ≡ sum_by (λ (holder : ℕ × ℕ). holder.1) (take l.holder-index l.holders);
  small : l.total ≤ l.holder-index * 2 ^ 64;
}
