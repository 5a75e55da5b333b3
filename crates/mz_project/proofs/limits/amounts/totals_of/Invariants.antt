use Rattle.std.proofs.Common.{ℕ, ◌≡◌, []}
use Rattle.std.specs.Prelude.{slice_index_or}
use Rattle.std.specs.List.{sum_by}
use Rattle.mz_num.specs.Places.{list_below}
use Rattle.mz_project.proofs.limits.amounts.totals_of.Given as goal

abbrev pub invariant-loop-feature : goal.invariant-loop-feature
invariant-loop-feature l = l.totals.items ≡ list_below l.feature (λ feature. sum_by (λ (holder : ℕ × ℕ). holder.1) (slice_index_or l.holders feature []))
