-- The sums of pairs, while rows are added one by one.
use Rattle.std.proofs.Common.{◌≡◌, ℕ, ◌+◌, ◌*◌, ◌<◌, ◌≤◌, ◌==◌, Bool, true, false, cond, List, [], ◌∷◌, ◌++◌, length, get_or, set, refl, ap, sym, ◌∙◌, subst, arith, inl, inr, zero, suc}
use Rattle.std.specs.Prelude.{◌⊎◌, ◌&&◌, ◌||◌}
use Rattle.std.specs.List.{All, list_any}
use Rattle.std.specs.List.Sorted.{IsPermutation}
use Rattle.std.proofs.Math.ListN.{length-set}
use Rattle.std.proofs.lemmas.Bool.{cases_eq, eq-eqb, ne_eqb, eqb-true}
use Rattle.std.proofs.lemmas.List.{get_or-set_other, get_or-set_same}
use Rattle.std.proofs.lemmas.List.Elements.{All-push}
use Rattle.std.proofs.lemmas.List.Folds.{list_any-append, list_any_at, list_any_none}
use Rattle.std.proofs.lemmas.List.Quantifiers.{all_pairs_push}
use Rattle.std.proofs.lemmas.List.Sorted.{list_any-IsPermutation, sum_by-IsPermutation}
use Rattle.std.proofs.lemmas.List.Sums.{sum_by-cons, sum_by_push, sum_by-le}
use Rattle.mz_num.specs.Order.{IsBefore}
use Rattle.mz_rows.specs.Pairs.{names, number_for, pair_sum}
use Rattle.mz_rows.specs.Runs.{AreAdded}

-- two places and a number
abbrev Pair : Type 0
Pair = ℕ × ℕ × ℕ

-- ---- what a row names

pub both_true : (a b c d : ℕ) → a ≡ c → b ≡ d → ((a == c) && (b == d)) ≡ true
both_true a b c d e f = ap (λ t. t && (b == d)) (eq-eqb a c e) ∙ eq-eqb b d f

and_false : (s t : Bool) → t ≡ false → (s && t) ≡ false
and_false true t e = e
and_false false t e = refl

pub first_false : (a b c d : ℕ) → (a ≡ c → ⊥) → ((a == c) && (b == d)) ≡ false
first_false a b c d ne = ap (λ t. t && (b == d)) (ne_eqb a c ne)

pub second_false : (a b c d : ℕ) → (b ≡ d → ⊥) → ((a == c) && (b == d)) ≡ false
second_false a b c d ne = and_false (a == c) (b == d) (ne_eqb b d ne)

pub and_left : (s t : Bool) → (s && t) ≡ true → s ≡ true
and_left true t e = refl
and_left false t e = e

pub and_right : (s t : Bool) → (s && t) ≡ true → t ≡ true
and_right true t e = e
and_right false t e = cc

pub both_are : (a b c d : ℕ) → ((a == c) && (b == d)) ≡ true → (a ≡ c) × (b ≡ d)
both_are a b c d e = (eqb-true a c (and_left (a == c) (b == d) e), eqb-true b d (and_right (a == c) (b == d) e))

-- a sum before another is of another pair
apart : (a b c d : ℕ) → (a < c) ⊎ ((a ≡ c) × (b < d)) → ((a == c) && (b == d)) ≡ false
apart a b c d (inl less) = first_false a b c d (λ e. omega arith)
apart a b c d (inr h) = second_false a b c d (λ e. let k = h.1 in omega arith)

apart' : (a b c d : ℕ) → (a < c) ⊎ ((a ≡ c) × (b < d)) → ((c == a) && (d == b)) ≡ false
apart' a b c d (inl less) = first_false c d a b (λ e. omega arith)
apart' a b c d (inr h) = second_false c d a b (λ e. let k = h.1 in omega arith)

-- ---- sums

pub added-more : (rows : List Pair) (row : Pair) (u v : ℕ) → pair_sum (rows ++ row ∷ []) u v ≡ pair_sum rows u v + number_for u v row
added-more rows row u v = sum_by_push (number_for u v) rows row

pub number_for-other : (u v : ℕ) (row : Pair) → names u v row ≡ false → number_for u v row ≡ 0
number_for-other u v row e = ap (λ b. cond b row.2 0) e

pub number_for-same : (u v : ℕ) (row : Pair) → names u v row ≡ true → number_for u v row ≡ row.2
number_for-same u v row e = ap (λ b. cond b row.2 0) e

pub added-other : (rows : List Pair) (row : Pair) (u v : ℕ) → names u v row ≡ false → pair_sum (rows ++ row ∷ []) u v ≡ pair_sum rows u v
added-other rows row u v e = let more : pair_sum (rows ++ row ∷ []) u v ≡ pair_sum rows u v + number_for u v row = added-more rows row u v in let zero : number_for u v row ≡ 0 = number_for-other u v row e in omega arith

pub added-same : (rows : List Pair) (row : Pair) (u v : ℕ) → names u v row ≡ true → pair_sum (rows ++ row ∷ []) u v ≡ pair_sum rows u v + row.2
added-same rows row u v e = let more : pair_sum (rows ++ row ∷ []) u v ≡ pair_sum rows u v + number_for u v row = added-more rows row u v in let same : number_for u v row ≡ row.2 = number_for-same u v row e in omega arith

or_false : (s t : Bool) → (s || t) ≡ false → (s ≡ false) × (t ≡ false)
or_false true t e = cc
or_false false t e = (refl, e)

pub added-none : (rows : List Pair) (u v : ℕ) → list_any (names u v) rows ≡ false → pair_sum rows u v ≡ 0
added-none [] u v e = refl
added-none (row ∷ rows) u v e =
    let parts : (names u v row ≡ false) × (list_any (names u v) rows ≡ false) = or_false (names u v row) (list_any (names u v) rows) e in
    let first : number_for u v row ≡ 0 = number_for-other u v row parts.0 in
    let rest : pair_sum rows u v ≡ 0 = added-none rows u v parts.1 in
    let whole : pair_sum (row ∷ rows) u v ≡ number_for u v row + pair_sum rows u v = sum_by-cons (number_for u v) row rows in
    omega arith

cond-le : (b : Bool) (number most : ℕ) → number ≤ most → cond b number 0 ≤ most
cond-le true number most h = h
cond-le false number most h = omega arith

pub added-le : (rows : List Pair) (most u v : ℕ) → All (λ row. row.2 ≤ most) rows → pair_sum rows u v ≤ length rows * most
added-le rows most u v small = sum_by-le (number_for u v) most rows (λ k d h. cond-le (names u v (get_or rows k d)) (get_or rows k d).2 most (small k d h))

-- ---- the list of sums, with one more row

-- a row of a pair behind all the sums is a sum of its own
pub added-new : (rows : List Pair) (row : Pair) (sums : List Pair) → AreAdded rows sums → All (λ sum. IsBefore sum row) sums → AreAdded (rows ++ row ∷ []) (sums ++ row ∷ [])
added-new rows row sums are behind =
    let none : list_any (names row.0 row.1) sums ≡ false = list_any_none (names row.0 row.1) sums (λ k d h. apart (get_or sums k d).0 (get_or sums k d).1 row.0 row.1 (behind k d h)) in
    let nothing : pair_sum rows row.0 row.1 ≡ 0 = added-none rows row.0 row.1 (sym (are.named row.0 row.1) ∙ none) in
    let own : pair_sum (rows ++ row ∷ []) row.0 row.1 ≡ pair_sum rows row.0 row.1 + row.2 = added-same rows row row.0 row.1 (both_true row.0 row.1 row.0 row.1 refl refl) in
    record {
      in_order = all_pairs_push IsBefore sums row are.in_order (λ k d h. behind k d h);
      added = All-push (λ (sum : Pair). sum.2 ≡ pair_sum (rows ++ row ∷ []) sum.0 sum.1) sums row
          (λ k d h. are.added k d h ∙ sym (added-other rows row (get_or sums k d).0 (get_or sums k d).1 (apart' (get_or sums k d).0 (get_or sums k d).1 row.0 row.1 (behind k d h))))
          (omega arith);
      named = λ u v. list_any-append (names u v) sums (row ∷ []) ∙ ap (λ b. b || (names u v row || false)) (are.named u v) ∙ sym (list_any-append (names u v) rows (row ∷ []));
    }

-- ---- a row of the last sum's pair

-- the same pair with another sum, in its place
kept_at : (sums : List Pair) (k : ℕ) (sum : Pair) (i : ℕ) (d : Pair) → k < length sums → ((d : Pair) → sum.0 ≡ (get_or sums k d).0) → ((d : Pair) → sum.1 ≡ (get_or sums k d).1) → ((get_or (set sums k sum) i d).0 ≡ (get_or sums i d).0) × ((get_or (set sums k sum) i d).1 ≡ (get_or sums i d).1)
kept_at sums k sum i d h first second = elim (cases_eq i k) [
  | inl e ↦ (
    ap (λ j. (get_or (set sums k sum) j d).0) e ∙ ap (λ (x : Pair). x.0) (get_or-set_same sums k sum d h) ∙ first d ∙ sym (ap (λ j. (get_or sums j d).0) e),
    ap (λ j. (get_or (set sums k sum) j d).1) e ∙ ap (λ (x : Pair). x.1) (get_or-set_same sums k sum d h) ∙ second d ∙ sym (ap (λ j. (get_or sums j d).1) e),
  )
  | inr ne ↦ (ap (λ (x : Pair). x.0) (get_or-set_other sums k i sum d ne), ap (λ (x : Pair). x.1) (get_or-set_other sums k i sum d ne))
]

before_same : (a b c d a' b' c' d' : ℕ) → a' ≡ a → b' ≡ b → c' ≡ c → d' ≡ d → (a < c) ⊎ ((a ≡ c) × (b < d)) → (a' < c') ⊎ ((a' ≡ c') × (b' < d'))
before_same a b c d a' b' c' d' e f g h (inl less) = inl (omega arith)
before_same a b c d a' b' c' d' e f g h (inr same) = let k = same.0 in let l = same.1 in inr (omega arith, omega arith)

list_any-set : {X : Type 0} (p : X → Bool) (xs : List X) (k : ℕ) (x : X) → ((d : X) → k < length xs → p x ≡ p (get_or xs k d)) → list_any p (set xs k x) ≡ list_any p xs
list_any-set p [] k x e = refl
list_any-set p (y ∷ ys) zero x e = ap (λ b. b || list_any p ys) (e y (omega arith))
list_any-set p (y ∷ ys) (suc k) x e = ap (λ b. p y || b) (list_any-set p ys k x (λ d h. e d (omega arith)))

or_same : (s t : Bool) → (t ≡ true → s ≡ true) → s ≡ (s || (t || false))
or_same true t e = refl
or_same false true e = e refl
or_same false false e = refl

pub added-last : (rows : List Pair) (row : Pair) (sums : List Pair) (k sum' : ℕ) → AreAdded rows sums → k + 1 ≡ length sums → ((d : Pair) → row.0 ≡ (get_or sums k d).0) → ((d : Pair) → row.1 ≡ (get_or sums k d).1) → ((d : Pair) → sum' ≡ (get_or sums k d).2 + row.2) → AreAdded (rows ++ row ∷ []) (set sums k (row.0, row.1, sum'))
added-last rows row sums k sum' are last first second longer =
    let sum : Pair = (row.0, row.1, sum') in
    let inside : k < length sums = omega arith in
    let size : length (set sums k sum) ≡ length sums = length-set sums k sum in
    let keeps : (i : ℕ) (d : Pair) → ((get_or (set sums k sum) i d).0 ≡ (get_or sums i d).0) × ((get_or (set sums k sum) i d).1 ≡ (get_or sums i d).1) = λ i d. kept_at sums k sum i d inside first second in
    record {
      in_order = λ i j d h m. before_same (get_or sums i d).0 (get_or sums i d).1 (get_or sums j d).0 (get_or sums j d).1 (get_or (set sums k sum) i d).0 (get_or (set sums k sum) i d).1 (get_or (set sums k sum) j d).0 (get_or (set sums k sum) j d).1 (keeps i d).0 (keeps i d).1 (keeps j d).0 (keeps j d).1 (are.in_order i j d h (omega arith));
      added = λ i d h. elim (cases_eq i k) [
        | inl e ↦ subst (λ (x : Pair). x.2 ≡ pair_sum (rows ++ row ∷ []) x.0 x.1) (sym (ap (λ j. get_or (set sums k sum) j d) e ∙ get_or-set_same sums k sum d inside))
            (longer d ∙ ap (λ n. n + row.2) (are.added k d inside ∙ ap (λ n. pair_sum rows n (get_or sums k d).1) (sym (first d)) ∙ ap (λ n. pair_sum rows row.0 n) (sym (second d)))
            ∙ sym (added-same rows row row.0 row.1 (both_true row.0 row.1 row.0 row.1 refl refl)))
        | inr ne ↦ subst (λ (x : Pair). x.2 ≡ pair_sum (rows ++ row ∷ []) x.0 x.1) (sym (get_or-set_other sums k i sum d ne))
            (are.added i d (omega arith) ∙ sym (added-other rows row (get_or sums i d).0 (get_or sums i d).1
            (apart' (get_or sums i d).0 (get_or sums i d).1 row.0 row.1
            (before_same (get_or sums i d).0 (get_or sums i d).1 (get_or sums k d).0 (get_or sums k d).1 (get_or sums i d).0 (get_or sums i d).1 row.0 row.1 refl refl (first d) (second d) (are.in_order i k d (omega arith) inside)))))
      ];
      named = λ u v. list_any-set (names u v) sums k sum (λ d _. ap (λ n. (n == u) && (row.1 == v)) (first d) ∙ ap (λ n. ((get_or sums k d).0 == u) && (n == v)) (second d))
          ∙ are.named u v
          ∙ or_same (list_any (names u v) rows) (names u v row) (λ e. sym (are.named u v) ∙ list_any_at (names u v) sums k sum inside
          (sym (ap (λ n. (n == u) && (row.1 == v)) (first sum) ∙ ap (λ n. ((get_or sums k sum).0 == u) && (n == v)) (second sum)) ∙ e))
          ∙ sym (list_any-append (names u v) rows (row ∷ []));
    }

-- ---- rows in another order

pub added-moved : (rows moved : List Pair) (sums : List Pair) → IsPermutation rows moved → AreAdded moved sums → AreAdded rows sums
added-moved rows moved sums same are = record {
  in_order = are.in_order;
  added = λ k d h. are.added k d h ∙ sum_by-IsPermutation (number_for (get_or sums k d).0 (get_or sums k d).1) rows moved same;
  named = λ u v. are.named u v ∙ sym (list_any-IsPermutation (names u v) rows moved same);
}
