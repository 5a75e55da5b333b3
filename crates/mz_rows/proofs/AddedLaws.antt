-- The pairs that are added are those of the definition, and what whoever takes them learns.
use Rattle.std.proofs.Common.{◌≡◌, ℕ, ◌+◌, ◌<◌, Bool, true, false, cond, List, [], ◌∷◌, length, get_or, refl, ap, sym, ◌∙◌, subst, arith}
use Rattle.std.specs.Prelude.{◌&&◌, ◌||◌}
use Rattle.std.specs.List.{All, Any, Contains, filter, flat_map, list_any, range_with_len, sum_by}
use Rattle.std.proofs.lemmas.List.Elements.{All-cons, All-head, All-tail}
use Rattle.std.proofs.lemmas.List.Folds.{Any-from_list_any, list_any_at}
use Rattle.std.proofs.lemmas.List.Sums.{sum_by-cons}
use Rattle.mz_rows.specs.Pairs.{added_pairs, names, pair_if, pair_sum, pairs_below}
use Rattle.mz_rows.specs.Runs.{AreAdded}
use Rattle.mz_rows.proofs.AddedPairLemmas.{both_are, both_true}
use Rattle.mz_rows.proofs.PairListLemmas.{pairs_below-are}

-- two places and a number
abbrev Pair : Type 0
Pair = ℕ × ℕ × ℕ

of_row : (n m : ℕ) (rows : List Pair) (sum : Pair) → Any (λ row. names sum.0 sum.1 row ≡ true) rows → All (λ row. row.0 < n) rows → All (λ row. row.1 < m) rows → (sum.0 < n) × (sum.1 < m)
of_row n m rows sum (k, row, h, at, named) low high =
    let below : (get_or rows k row).0 < n = low k row h in
    let below' : (get_or rows k row).1 < m = high k row h in
    let first : (get_or rows k row).0 ≡ row.0 = ap (λ (r : Pair). r.0) at in
    let second : (get_or rows k row).1 ≡ row.1 = ap (λ (r : Pair). r.1) at in
    let same : (row.0 ≡ sum.0) × (row.1 ≡ sum.1) = both_are row.0 row.1 sum.0 sum.1 named in
    (omega (arith, same.0), omega (arith, same.1))

-- some row names the places of a sum
sum-named : (rows sums : List Pair) (k : ℕ) (d : Pair) → AreAdded rows sums → k < length sums → list_any (names (get_or sums k d).0 (get_or sums k d).1) rows ≡ true
sum-named rows sums k d are h =
    let sum : Pair = get_or sums k d in
    sym (are.named sum.0 sum.1) ∙ list_any_at (names sum.0 sum.1) sums k d h (both_true sum.0 sum.1 sum.0 sum.1 refl refl)

sum-within : (n m : ℕ) (rows sums : List Pair) (k : ℕ) (d : Pair) → AreAdded rows sums → All (λ row. row.0 < n) rows → All (λ row. row.1 < m) rows → k < length sums → ((get_or sums k d).0 < n) × ((get_or sums k d).1 < m)
sum-within n m rows sums k d are low high h =
    of_row n m rows (get_or sums k d) (Any-from_list_any (names (get_or sums k d).0 (get_or sums k d).1) rows (sum-named rows sums k d are h)) low high

sum_is : (rows : List Pair) (sum : Pair) (u v : ℕ) → sum.0 ≡ u → sum.1 ≡ v → sum.2 ≡ pair_sum rows sum.0 sum.1 → sum ≡ (u, v, pair_sum rows u v)
sum_is rows sum u v e f is = let number : sum.2 ≡ pair_sum rows u v = is ∙ ap (λ n. pair_sum rows n sum.1) e ∙ ap (λ n. pair_sum rows u n) f in λ i. (e i, f i, number i)

-- the sum of two places that a row names
sum-held : (rows sums : List Pair) (u v : ℕ) → AreAdded rows sums → Any (λ sum. names u v sum ≡ true) sums → Contains sums (u, v, pair_sum rows u v)
sum-held rows sums u v are (k, sum, h, at, named) =
    let is : sum.2 ≡ pair_sum rows sum.0 sum.1 = subst (λ (x : Pair). x.2 ≡ pair_sum rows x.0 x.1) at (are.added k sum h) in
    let pair : (sum.0 ≡ u) × (sum.1 ≡ v) = both_are sum.0 sum.1 u v named in
    subst (Contains sums) (sum_is rows sum u v pair.0 pair.1 is) (k, h, at)

-- one list alone is in order with these members
pub added-are : (n m : ℕ) (rows sums : List (ℕ × ℕ × ℕ)) → AreAdded rows sums → All (λ row. row.0 < n) rows → All (λ row. row.1 < m) rows → sums ≡ added_pairs n m rows
added-are n m rows sums are low high = pairs_below-are n m (λ u v. list_any (names u v) rows) (pair_sum rows) sums are.in_order
    (λ k d h. let within : ((get_or sums k d).0 < n) × ((get_or sums k d).1 < m) = sum-within n m rows sums k d are low high h in record {
      first_below = within.0;
      second_below = within.1;
      passes = sum-named rows sums k d are h;
      has_number = are.added k d h;
    })
    (λ u v _ _ e. sum-held rows sums u v are (Any-from_list_any (names u v) sums (are.named u v ∙ e)))

-- ---- pairs below by another test

pair_if-same : (b b' : Bool) (x x' : Pair) → b ≡ b' → (b' ≡ true → x ≡ x') → cond b (x ∷ []) [] ≡ cond b' (x' ∷ []) []
pair_if-same b true x x' e same = ap (λ t. cond t (x ∷ []) []) e ∙ ap (λ (p : Pair). p ∷ []) (same refl)
pair_if-same b false x x' e same = ap (λ t. cond t (x ∷ []) []) e

-- where two tests agree, and the numbers of the pairs that pass
pub pairs_below-same : (n m : ℕ) (test test' : ℕ → ℕ → Bool) (number number' : ℕ → ℕ → ℕ) → ((u v : ℕ) → test u v ≡ test' u v) → ((u v : ℕ) → test' u v ≡ true → number u v ≡ number' u v) → pairs_below n m test number ≡ pairs_below n m test' number'
unfolding pairs_below
pairs_below-same n m test test' number number' tests numbers =
    let each : (u v : ℕ) → pair_if test number u v ≡ pair_if test' number' u v = λ u v. pair_if-same (test u v) (test' u v) (u, v, number u v) (u, v, number' u v) (tests u v) (λ passes. ap (λ k. (u, v, k)) (numbers u v passes)) in
    ap (λ (f : ℕ → ℕ → List Pair). flat_map (λ u. flat_map (f u) (range_with_len 0 m)) (range_with_len 0 n)) (λ i. λ u. λ v. each u v i)

-- ---- rows that count

kept_any : (b : Bool) (p : Pair → Bool) (row : Pair) (kept : List Pair) → list_any p (cond b (row ∷ kept) kept) ≡ ((b && p row) || list_any p kept)
kept_any true p row kept = refl
kept_any false p row kept = refl

pub list_any-filter : (p counts : ℕ × ℕ × ℕ → Bool) (rows : List (ℕ × ℕ × ℕ)) → list_any p (filter counts rows) ≡ list_any (λ row. counts row && p row) rows
list_any-filter p counts [] = refl
list_any-filter p counts (row ∷ rows) = kept_any (counts row) p row (filter counts rows) ∙ ap (λ b. (counts row && p row) || b) (list_any-filter p counts rows)

kept_sum : (b : Bool) (f : Pair → ℕ) (row : Pair) (kept : List Pair) → (b ≡ false → f row ≡ 0) → sum_by f (cond b (row ∷ kept) kept) ≡ f row + sum_by f kept
kept_sum true f row kept none = sum_by-cons f row kept
kept_sum false f row kept none = let zero : f row ≡ 0 = none refl in omega arith

-- rows that add nothing don't count
pub sum-filter : (f : ℕ × ℕ × ℕ → ℕ) (counts : ℕ × ℕ × ℕ → Bool) (rows : List (ℕ × ℕ × ℕ)) → ((row : ℕ × ℕ × ℕ) → counts row ≡ false → f row ≡ 0) → sum_by f (filter counts rows) ≡ sum_by f rows
sum-filter f counts [] none = refl
sum-filter f counts (row ∷ rows) none = kept_sum (counts row) f row (filter counts rows) (none row) ∙ ap (λ n. f row + n) (sum-filter f counts rows none) ∙ sym (sum_by-cons f row rows)

kept_all : (P : Pair → Type 0) (b : Bool) (row : Pair) (kept : List Pair) → P row → All P kept → All P (cond b (row ∷ kept) kept)
kept_all P true row kept p all = All-cons P row kept p all
kept_all P false row kept p all = all

pub All-filter : (P : ℕ × ℕ × ℕ → Type 0) (counts : ℕ × ℕ × ℕ → Bool) (rows : List (ℕ × ℕ × ℕ)) → All P rows → All P (filter counts rows)
All-filter P counts [] all = all
All-filter P counts (row ∷ rows) all = kept_all P (counts row) row (filter counts rows) (All-head P row rows all) (All-filter P counts rows (All-tail P row rows all))
