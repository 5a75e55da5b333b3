-- Laws of the best of several scores.
use Rattle.std.proofs.Common.{◌≡◌, ℕ, ◌+◌, ◌<◌, ◌≤◌, true, false, List, [], ◌∷◌, ◌++◌, Option, None, Some, IfSome, length, get_or, refl, ap, sym, ◌∙◌, subst, arith, inl, inr}
use Rattle.std.specs.Prelude.{nat_le, nat_lt}
use Rattle.std.specs.List.{position_or_len}
use Rattle.std.proofs.lemmas.Bool.{cases_lt, both_ways, cond-true, le-leb, leb-true, lt-leb, lt-ltb}
use Rattle.std.proofs.Math.ListN.{get_or-append}
use Rattle.std.proofs.Math.Seq.{get_or-append_seam}
use Rattle.std.proofs.lemmas.List.{length-append}
use Rattle.std.proofs.lemmas.List.Elements.{All-from_get_or}
use Rattle.std.proofs.lemmas.List.Folds.{list_all_at}
use Rattle.std.proofs.lemmas.List.Quantifiers.{position-Some}
use Rattle.std.proofs.lemmas.List.Sums.{AllPass-from_list_all, list_all-from_AllPass, position_or_len_is}
use Rattle.mz_sums.specs.Best.{is_least, best_of, IsFirstLeastOf, IsFirstLeast, IsBestOf}

least_passes : (scores : List ℕ) (score : ℕ) → ((k : ℕ) → k < length scores → score ≤ get_or scores k 0) → is_least scores score ≡ true
least_passes scores score least =
    list_all-from_AllPass (λ other. nat_le score other) scores
    (All-from_get_or (λ other. nat_le score other ≡ true) scores 0 (λ k h. le-leb score (get_or scores k 0) (least k h)))

greater_fails : (scores : List ℕ) (score place : ℕ) → place < length scores → get_or scores place 0 < score → is_least scores score ≡ false
greater_fails scores score place h lower = list_all_at (λ other. nat_le score other) scores place 0 h (lt-leb score (get_or scores place 0) lower)

-- the first place of the least score is the best
pub best_of-first : (scores : List ℕ) (place : ℕ) → IsFirstLeast scores place → best_of scores ≡ Some place
best_of-first scores place is =
    let at : position_or_len (is_least scores) scores ≡ place =
    position_or_len_is (is_least scores) scores place 0 (omega (arith, is.in_range))
    (λ k h. greater_fails scores (get_or scores k 0) place is.in_range (is.first k h))
    (λ _. least_passes scores (get_or scores place 0) is.least) in
    cond-true (nat_lt (position_or_len (is_least scores) scores) (length scores)) (Some (position_or_len (is_least scores) scores)) None
    (lt-ltb (position_or_len (is_least scores) scores) (length scores) (omega (arith, at, is.in_range)))
    ∙ ap (λ i. Some i) at

-- the best of none, and of all
pub best_of_none : (scores : List ℕ) → 0 ≡ length scores → best_of scores ≡ None
best_of_none [] e = refl
best_of_none (score ∷ scores) e = absurd (omega arith)

pub best_of_all : (scores : List ℕ) (n : ℕ) (best : Option ℕ) → n ≡ length scores → IsBestOf n scores best → best ≡ best_of scores
best_of_all scores n None whole is = sym (best_of_none scores (sym is ∙ whole))
best_of_all scores n (Some place) whole is = sym (best_of-first scores place (subst (λ m. IsFirstLeastOf m scores place) whole is))

pub first_least_of_all : (scores : List ℕ) (n : ℕ) (best : Option ℕ) → n ≡ length scores → IsBestOf n scores best → IfSome best (IsFirstLeast scores)
first_least_of_all scores n None whole is = tt
first_least_of_all scores n (Some place) whole is = subst (λ m. IsFirstLeastOf m scores place) whole is

-- the best of scores has the least of them, and is the first that does
pub first-best_of : (scores : List ℕ) (place : ℕ) → best_of scores ≡ Some place → IsFirstLeast scores place
first-best_of scores place found =
    let at : (place < length scores) × (is_least scores (get_or scores place 0) ≡ true) × ((k : ℕ) → k < place → is_least scores (get_or scores k 0) ≡ false) =
    position-Some (is_least scores) scores place 0 found in
    let least : (k : ℕ) → k < length scores → get_or scores place 0 ≤ get_or scores k 0 =
    λ k h. leb-true (get_or scores place 0) (get_or scores k 0)
    (AllPass-from_list_all (λ other. nat_le (get_or scores place 0) other) scores at.1 k 0 h) in
    record {
      in_range = at.0;
      least = least;
      first = λ k h. elim (cases_lt (get_or scores place 0) (get_or scores k 0)) [
        | inl lower ↦ lower
        | inr same ↦ absurd (both_ways (is_least scores (get_or scores k 0))
            (at.2 k h)
            (least_passes scores (get_or scores k 0) (λ j i. let lowest : get_or scores place 0 ≤ get_or scores j 0 = least j i in omega arith)))
      ];
    }

-- one score more: it is the best where it is lower than the best so far, which stays the best else

pub best_of_first : (score : ℕ) → best_of (score ∷ []) ≡ Some 0
best_of_first score =
    best_of-first (score ∷ []) 0 (record {
      in_range = omega arith;
      least = λ k h. let only : k ≡ 0 = omega arith in rw only (omega arith);
      first = λ k h. absurd (omega arith);
    })

pub best_of_kept : (scores : List ℕ) (score place : ℕ) → best_of scores ≡ Some place → get_or scores place 0 ≤ score → best_of (scores ++ score ∷ []) ≡ Some place
best_of_kept scores score place found lower =
    let is : IsFirstLeast scores place = first-best_of scores place found in
    let h : place < length scores = is.in_range in
    let whole : length (scores ++ score ∷ []) ≡ length scores + 1 = length-append scores (score ∷ []) in
    let old : (k : ℕ) → k < length scores → get_or (scores ++ score ∷ []) k 0 ≡ get_or scores k 0 = λ k i. get_or-append scores (score ∷ []) 0 k i in
    let last : get_or (scores ++ score ∷ []) (length scores) 0 ≡ score = get_or-append_seam scores score [] 0 in
    best_of-first (scores ++ score ∷ []) place (record {
      in_range = omega arith;
      least = λ k i. elim (cases_lt k (length scores)) [
        | inl before ↦ omega (arith, old k before, old place h, is.least k before)
        | inr end ↦ (let at : k ≡ length scores = omega arith in rw at (omega (arith, last, old place h)))
      ];
      first = λ k i. omega (arith, old k (omega arith), old place h, is.first k i);
    })

pub best_of_taken : (scores : List ℕ) (score place : ℕ) → best_of scores ≡ Some place → score < get_or scores place 0 → best_of (scores ++ score ∷ []) ≡ Some (length scores)
best_of_taken scores score place found lower =
    let is : IsFirstLeast scores place = first-best_of scores place found in
    let whole : length (scores ++ score ∷ []) ≡ length scores + 1 = length-append scores (score ∷ []) in
    let old : (k : ℕ) → k < length scores → get_or (scores ++ score ∷ []) k 0 ≡ get_or scores k 0 = λ k i. get_or-append scores (score ∷ []) 0 k i in
    let last : get_or (scores ++ score ∷ []) (length scores) 0 ≡ score = get_or-append_seam scores score [] 0 in
    best_of-first (scores ++ score ∷ []) (length scores) (record {
      in_range = omega arith;
      least = λ k i. elim (cases_lt k (length scores)) [
        | inl before ↦ omega (arith, old k before, last, is.least k before)
        | inr end ↦ (let at : k ≡ length scores = omega arith in rw at (omega arith))
      ];
      first = λ k i. omega (arith, old k i, last, is.least k i);
    })
