use Rattle.std.proofs.Common.{◌≡◌, ◌^◌, ◌<◌, ◌≤◌, ℕ, List, sym, subst, rules}
use Rattle.std.specs.List.{All}
use Rattle.std.specs.List.Sorted.{IsNonDecreasingBy}
use Rattle.std.proofs.lemmas.List.Sorted.{All-permutation, IsNonDecreasingBy-from_sort_by_key}
use Rattle.std.proofs.lemmas.Result.{IfOk-weaker}
use Rattle.mz_num.specs.Limits.{greatest_quantity}
use Rattle.mz_rows.specs.Pairs.{added_pairs}
use Rattle.mz_rows.specs.Runs.{AreAdded, pair_key}
use Rattle.mz_rows.proofs.AddedLaws.{added-are}
use Rattle.mz_rows.proofs.AddedPairLemmas.{added-moved}
use Rattle.mz_rows.proofs.pairs.add_pairs.Goals as goal

pub add_runs-requires-clause-narrow : goal.add_runs-requires-clause-narrow
add_runs-requires-clause-narrow c = subst (All (λ row. row.1 < 2 ^ 32)) (sym c.as_slice.ensures.value) (All-permutation (λ row. row.1 < 2 ^ 32) c.args.rows.items c.sort_unstable_by_key.new.self.items c.sort_unstable_by_key.ensures.permutation c.requires.narrow)

pub add_runs-requires-clause-small : goal.add_runs-requires-clause-small
add_runs-requires-clause-small c = subst (All (λ row. row.2 ≤ greatest_quantity)) (sym c.as_slice.ensures.value) (All-permutation (λ row. row.2 ≤ greatest_quantity) c.args.rows.items c.sort_unstable_by_key.new.self.items c.sort_unstable_by_key.ensures.permutation c.requires.small)

pub add_runs-requires-clause-sorted : goal.add_runs-requires-clause-sorted
add_runs-requires-clause-sorted c =
    subst (IsNonDecreasingBy pair_key) (sym c.as_slice.ensures.value)
    (IsNonDecreasingBy-from_sort_by_key pair_key _ c.sort_unstable_by_key.ensures.sorted (λ a r q k. search rules))

pub returns-clause-sums : goal.returns-clause-sums
returns-clause-sums c =
    IfOk-weaker c.add_runs.result (λ sums. AreAdded c.as_slice.result.now sums.items) (λ sums. (n m : ℕ) → All (λ row. row.0 < n) c.args.rows.items → All (λ row. row.1 < m) c.args.rows.items → sums.items ≡ added_pairs n m c.args.rows.items)
    (λ sums are n m. added-are n m c.args.rows.items sums.items (added-moved c.args.rows.items c.sort_unstable_by_key.new.self.items sums.items c.sort_unstable_by_key.ensures.permutation (subst (λ (rows : List (ℕ × ℕ × ℕ)). AreAdded rows sums.items) c.as_slice.ensures.value are)))
    c.add_runs.ensures.added
