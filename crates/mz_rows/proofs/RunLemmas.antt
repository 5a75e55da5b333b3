-- A loop over rows in order of their pairs, which adds those of one pair.
use Rattle.std.proofs.Common.{◌≡◌, ℕ, ◌+◌, ◌-◌, ◌*◌, ◌^◌, ◌<◌, ◌≤◌, true, false, List, [], ◌∷◌, ◌++◌, length, get_or, set, take, refl, ap, sym, ◌∙◌, subst, arith, inl, inr, length-take-le}
use Rattle.std.specs.Prelude.{◌⊎◌, Option, Some}
use Rattle.std.specs.List.{All, slice_get}
use Rattle.std.specs.List.Sorted.{IsNonDecreasingBy}
use Rattle.std.proofs.Math.ListN.{length-set}
use Rattle.std.proofs.lemmas.Bool.{cases_eq, cases_lt, false≢true}
use Rattle.std.proofs.lemmas.List.{get_or_default, length_push, take_all, take_more}
use Rattle.std.proofs.lemmas.List.Elements.{All-nil, All-push, All-set, All-take}
use Rattle.std.proofs.lemmas.Option.{slice_get-get_or}
use Rattle.mz_num.specs.Order.{IsBefore}
use Rattle.mz_rows.specs.Pairs.{pair_sum}
use Rattle.mz_rows.specs.Runs.{AreAdded, ends_with, names_pair, pair_key}
use Rattle.mz_rows.proofs.AddedPairLemmas.{added-last, added-le, added-new, both_are, both_true}

-- two places and a number
abbrev Pair : Type 0
Pair = ℕ × ℕ × ℕ

-- the rows before this one have been added, and no sum is behind a row that is left
pub record AreAddedSoFar (rows : List Pair) (i : ℕ) (sums : List Pair) : Type 0 where
  pub added : AreAdded (take i rows) sums
  pub behind : (j : ℕ) (d : Pair) → i ≤ j → j < length rows → All (λ sum. pair_key sum ≤ pair_key (get_or rows j d)) sums
  pub count : length sums ≤ i
  pub high : All (λ sum. sum.1 < 2 ^ 32) sums

pub so_far-none : (rows : List Pair) (sums : List Pair) → sums ≡ [] → AreAddedSoFar rows 0 sums
so_far-none rows sums e = subst (AreAddedSoFar rows 0) (sym e) (record {
  added = record {
    in_order = λ i j d h k. absurd (omega arith);
    added = λ k d h. absurd (omega arith);
    named = λ first second. refl;
  };
  behind = λ j d h k. All-nil (λ sum. pair_key sum ≤ pair_key (get_or rows j d));
  count = omega arith;
  high = All-nil (λ sum. sum.1 < 2 ^ 32);
})

take_one : (rows : List Pair) (i : ℕ) (row : Pair) → i < length rows → row ≡ get_or rows i row → take i rows ++ row ∷ [] ≡ take (i + 1) rows
take_one rows i row h e = ap (λ (r : Pair). take i rows ++ r ∷ []) e ∙ sym (take_more rows i row h)

same_default : (rows : List Pair) (j : ℕ) (d d' : Pair) → j < length rows → get_or rows j d ≡ get_or rows j d'
same_default rows j d d' h = get_or_default rows j d d' h

-- the order of a row before another
rises : (rows : List Pair) (i j : ℕ) (row d : Pair) → IsNonDecreasingBy pair_key rows → row ≡ get_or rows i row → i < j → j < length rows → pair_key row ≤ pair_key (get_or rows j d)
rises rows i j row d sorted e h k =
    let up : pair_key (get_or rows i row) ≤ pair_key (get_or rows j row) = sorted i j row (omega arith) k in
    let up' : (pair_key (get_or rows j row)) ≡ pair_key (get_or rows j d) = ap pair_key (same_default rows j row d k) in
    let here : pair_key row ≡ pair_key (get_or rows i row) = ap pair_key e in
    omega arith

-- what the test of the last sum says
pub last_is : (sums : List Pair) (row : Pair) (d : Pair) → ends_with sums row ≡ true → (0 < length sums) × ((get_or sums (length sums - 1) d).0 ≡ row.0) × ((get_or sums (length sums - 1) d).1 ≡ row.1)
last_is [] row d e = absurd (false≢true e)
last_is (sum ∷ sums) row d e =
    let at : slice_get (sum ∷ sums) (length (sum ∷ sums) - 1) ≡ Some (get_or (sum ∷ sums) (length (sum ∷ sums) - 1) d) = slice_get-get_or (sum ∷ sums) (length (sum ∷ sums) - 1) d (omega arith) in
    let are = both_are (get_or (sum ∷ sums) (length (sum ∷ sums) - 1) d).0 (get_or (sum ∷ sums) (length (sum ∷ sums) - 1) d).1 row.0 row.1 (sym (ap (λ (o : Option Pair). names_pair o row) at) ∙ e) in
    (omega arith, are.0, are.1)

last_is_not : (sums : List Pair) (row : Pair) (d : Pair) → ends_with sums row ≡ false → 0 < length sums → (get_or sums (length sums - 1) d).0 ≡ row.0 → (get_or sums (length sums - 1) d).1 ≡ row.1 → ⊥
last_is_not sums row d e h first second =
    let at : slice_get sums (length sums - 1) ≡ Some (get_or sums (length sums - 1) d) = slice_get-get_or sums (length sums - 1) d (omega arith) in
    false≢true (sym e ∙ ap (λ (o : Option Pair). names_pair o row) at ∙ both_true (get_or sums (length sums - 1) d).0 (get_or sums (length sums - 1) d).1 row.0 row.1 first second)

-- a row of the last sum's pair
pub so_far-last : (rows : List Pair) (i : ℕ) (sums : List Pair) (row : Pair) (k : ℕ) (sum : Pair) → AreAddedSoFar rows i sums → i < length rows → row ≡ get_or rows i row → IsNonDecreasingBy pair_key rows → row.1 < 2 ^ 32 → ends_with sums row ≡ true → k ≡ length sums - 1 → ((d : Pair) → sum ≡ ((get_or sums k d).0, (get_or sums k d).1, (get_or sums k d).2 + row.2)) → AreAddedSoFar rows (i + 1) (set sums k sum)
so_far-last rows i sums row k sum so_far h e sorted most ends last is =
    let some : 0 < length sums = (last_is sums row sum ends).0 in
    let first : (d : Pair) → (get_or sums k d).0 ≡ row.0 = λ d. ap (λ j. (get_or sums j d).0) last ∙ (last_is sums row d ends).1 in
    let second : (d : Pair) → (get_or sums k d).1 ≡ row.1 = λ d. ap (λ j. (get_or sums j d).1) last ∙ (last_is sums row d ends).2 in
    let own : sum ≡ (row.0, row.1, sum.2) = is sum ∙ ap (λ n. (n, (get_or sums k sum).1, (get_or sums k sum).2 + row.2)) (first sum) ∙ ap (λ n. (row.0, n, (get_or sums k sum).2 + row.2)) (second sum) ∙ ap (λ n. (row.0, row.1, n)) (sym (ap (λ (x : Pair). x.2) (is sum))) in
    subst (λ (x : Pair). AreAddedSoFar rows (i + 1) (set sums k x)) (sym own) (record {
      added = subst (λ rs. AreAdded rs (set sums k (row.0, row.1, sum.2))) (take_one rows i row h e)
          (added-last (take i rows) row sums k sum.2 so_far.added (omega arith) (λ d. sym (first d)) (λ d. sym (second d)) (λ d. ap (λ (x : Pair). x.2) (is d)));
      behind = λ j d m l. All-set (λ sum. pair_key sum ≤ pair_key (get_or rows j d)) sums k (row.0, row.1, sum.2) (rises rows i j row d sorted e (omega arith) l) (so_far.behind j d (omega arith) l);
      count = omega (arith, so_far.count, length-set sums k (row.0, row.1, sum.2));
      high = All-set (λ sum. sum.1 < 2 ^ 32) sums k (row.0, row.1, sum.2) most so_far.high;
    })

-- a sum that isn't behind a row, and not of its pair, is before it
before_from_order : (a b c d : ℕ) → a * 2 ^ 32 + b ≤ c * 2 ^ 32 + d → b < 2 ^ 32 → d < 2 ^ 32 → (a ≡ c → b ≡ d → ⊥) → (a < c) ⊎ ((a ≡ c) × (b < d))
before_from_order a b c d h k l other = elim (cases_lt a c) [
  | inl less ↦ inl less
  | inr most ↦ (let same : a ≡ c = omega arith in let ne : b ≡ d → ⊥ = other same in inr (same, omega arith))
]

before_on : (a b c d e f : ℕ) → (a < c) ⊎ ((a ≡ c) × (b < d)) → (c < e) ⊎ ((c ≡ e) × (d < f)) → (a < e) ⊎ ((a ≡ e) × (b < f))
before_on a b c d e f (inl x) (inl y) = inl (omega arith)
before_on a b c d e f (inl x) (inr y) = let p = y.0 in inl (omega arith)
before_on a b c d e f (inr x) (inl y) = let p = x.0 in inl (omega arith)
before_on a b c d e f (inr x) (inr y) = let p = x.0 in let q = y.0 in let r = x.1 in let s = y.1 in inr (omega arith, omega arith)

all_before : (rows : List Pair) (i : ℕ) (sums : List Pair) (row : Pair) → AreAddedSoFar rows i sums → i < length rows → row ≡ get_or rows i row → row.1 < 2 ^ 32 → ends_with sums row ≡ false → All (λ sum. IsBefore sum row) sums
all_before rows i sums row so_far h e most ends = λ k d m.
    let last : ℕ = length sums - 1 in
    let order : pair_key (get_or sums last d) ≤ pair_key (get_or rows i row) = so_far.behind i row (omega arith) h last d (omega arith) in
    let here : pair_key row ≡ pair_key (get_or rows i row) = ap pair_key e in
    let before : IsBefore (get_or sums last d) row = before_from_order (get_or sums last d).0 (get_or sums last d).1 row.0 row.1 (omega arith) (so_far.high last d (omega arith)) most (λ p q. last_is_not sums row d ends (omega arith) p q) in
    elim (cases_eq k last) [
      | inl same ↦ subst (λ j. IsBefore (get_or sums j d) row) (sym same) before
      | inr other ↦ before_on (get_or sums k d).0 (get_or sums k d).1 (get_or sums last d).0 (get_or sums last d).1 row.0 row.1 (so_far.added.in_order k last d (omega arith) (omega arith)) before
    ]

-- a row of another pair
pub so_far-new : (rows : List Pair) (i : ℕ) (sums : List Pair) (row : Pair) → AreAddedSoFar rows i sums → i < length rows → row ≡ get_or rows i row → IsNonDecreasingBy pair_key rows → row.1 < 2 ^ 32 → ends_with sums row ≡ false → AreAddedSoFar rows (i + 1) (sums ++ row ∷ [])
so_far-new rows i sums row so_far h e sorted most ends = record {
  added = subst (λ rs. AreAdded rs (sums ++ row ∷ [])) (take_one rows i row h e)
      (added-new (take i rows) row sums so_far.added (all_before rows i sums row so_far h e most ends));
  behind = λ j d m l. All-push (λ sum. pair_key sum ≤ pair_key (get_or rows j d)) sums row (so_far.behind j d (omega arith) l) (rises rows i j row d sorted e (omega arith) l);
  count = omega (arith, so_far.count, length_push sums row);
  high = All-push (λ sum. sum.1 < 2 ^ 32) sums row so_far.high most;
}

-- no sum is too large to be added to
pub so_far-small : (rows : List Pair) (i : ℕ) (sums : List Pair) (k : ℕ) (d : Pair) → AreAddedSoFar rows i sums → All (λ row. row.2 ≤ 10 ^ 18) rows → i < length rows → k < length sums → (get_or sums k d).2 ≤ i * 10 ^ 18
so_far-small rows i sums k d so_far small h m =
    let is : (get_or sums k d).2 ≡ pair_sum (take i rows) (get_or sums k d).0 (get_or sums k d).1 = so_far.added.added k d m in
    let le : pair_sum (take i rows) (get_or sums k d).0 (get_or sums k d).1 ≤ length (take i rows) * 10 ^ 18 = added-le (take i rows) (10 ^ 18) (get_or sums k d).0 (get_or sums k d).1 (All-take (λ row. row.2 ≤ 10 ^ 18) i rows small) in
    let size : length (take i rows) ≡ i = length-take-le i rows (omega arith) in
    let same : length (take i rows) * 10 ^ 18 ≡ i * 10 ^ 18 = ap (λ n. n * 10 ^ 18) size in
    omega arith

pub so_far-all : (rows : List Pair) (i : ℕ) (sums : List Pair) → AreAddedSoFar rows i sums → length rows ≤ i → AreAdded rows sums
so_far-all rows i sums so_far h = subst (λ rs. AreAdded rs sums) (take_all i rows h) so_far.added
