use Rattle.std.proofs.Common.{ℕ, ◌≡◌, ◌≤◌, ◌*◌, ◌^◌, take}
use Rattle.std.specs.List.{sum_by}
use Rattle.mz_num.specs.Round.{round}
use Rattle.mz_project.proofs.limits.gains.gained.Given as goal

abbrev pub invariant-loop-holder : goal.invariant-loop-holder
invariant-loop-holder l = record {
  sum : l.gained ≡ sum_by (λ (holder : ℕ × ℕ). round (holder.1 * l.part) (10 ^ 6)) (take l.holder-index l.holders);
  small : l.gained ≤ l.holder-index * 10 ^ 30;
}
