-- What is held for the target rows of a moved unit, and the score of the moved plan.
use Rattle.std.proofs.Common.{◌≡◌, ℕ, ◌+◌, ◌<◌, ◌≤◌, ◌==◌, Bool, true, false, cond, List, [], ◌∷◌, ◌++◌, length, get_or, set, take, map, refl, sym, ap, ◌∙◌, arith, inl, inr}
use Rattle.std.specs.Prelude.{IsTrue, ◌||◌}
use Rattle.std.specs.List.{Contains, list_any}
use Rattle.std.proofs.Math.ListN.{get_or-map}
use Rattle.std.proofs.lemmas.Bool.{cases_Bool, cond-false, cond-true, eq-eqb, false≢true, ne_eqb}
use Rattle.std.proofs.lemmas.List.{get_or_default, length-map, take_all, take_more}
use Rattle.std.proofs.lemmas.List.Folds.{list_any-append, list_any_at}
use Rattle.mz_num.specs.Places.{list_below}
use Rattle.mz_num.proofs.PlaceLaws.{length-list_below, list_below-same, list_below-set, places_below-has}
use Rattle.mz_model.specs.declared.parts.Parts.{Parts}
use Rattle.mz_model.specs.declared.touch.Touch.{Touch}
use Rattle.mz_model.specs.Move.{moved_plan}
use Rattle.mz_model.specs.Parts.{target_count, unit_count}
use Rattle.mz_model.specs.Plans.{IsLegalPlan}
use Rattle.mz_model.specs.Targets.{held_of, is_touched, touched_rows, touches_of}
use Rattle.mz_model.specs.Valid.{IsValid}
use Rattle.mz_model.specs.Zones.{is_allowed}
use Rattle.mz_model.proofs.TouchLaws.{get_or-touches_of, length-touches_of, touched_rows-in_range}
use Rattle.mz_delta.specs.Reading.{totals_of_plan}
use Rattle.mz_delta.proofs.RowLaws.{held-not_touched}

-- the totals by row: those after the move at the rows that are done, and those before it elsewhere
abbrev pub totals_done : Parts → List ℕ → List ℕ → List ℕ → List ℕ
totals_done parts before after done =
    list_below (target_count parts) (λ row. cond (list_any (λ k. k == row) done) (held_of parts after row) (held_of parts before row))

or-true : (a : Bool) → (a || true) ≡ true
or-true true = refl
or-true false = refl

or-false : (a : Bool) → (a || false) ≡ a
or-false true = refl
or-false false = refl

any-own : (done : List ℕ) (row : ℕ) → list_any (λ k. k == row) (done ++ row ∷ []) ≡ true
any-own done row = list_any-append (λ k. k == row) done (row ∷ []) ∙ ap (λ b. list_any (λ k. k == row) done || (b || false)) (eq-eqb row row refl) ∙ or-true (list_any (λ k. k == row) done)

any-other : (done : List ℕ) (row k : ℕ) → (k ≡ row → ⊥) → list_any (λ j. j == k) done ≡ list_any (λ j. j == k) (done ++ row ∷ [])
any-other done row k other = sym (list_any-append (λ j. j == k) done (row ∷ []) ∙ ap (λ b. list_any (λ j. j == k) done || (b || false)) (ne_eqb row k (λ e. other (sym e))) ∙ or-false (list_any (λ j. j == k) done))

-- ---- no row, one row more, all rows

pub done-none : (parts : Parts) (before after totals : List ℕ) → totals ≡ totals_of_plan parts before → totals ≡ totals_done parts before after []
unfolding totals_of_plan
done-none parts before after totals are = are

done-set : (parts : Parts) (before after done totals : List ℕ) (row held : ℕ) → totals ≡ totals_done parts before after done → row < target_count parts → held ≡ held_of parts after row
    → set totals row held ≡ totals_done parts before after (done ++ row ∷ [])
done-set parts before after done totals row held are within is =
    ap (λ xs. set xs row held) are
    ∙ list_below-set (target_count parts) row (λ r. cond (list_any (λ k. k == r) done) (held_of parts after r) (held_of parts before r)) (λ r. cond (list_any (λ k. k == r) (done ++ row ∷ [])) (held_of parts after r) (held_of parts before r)) held 0 within
    (is ∙ sym (cond-true (list_any (λ k. k == row) (done ++ row ∷ [])) (held_of parts after row) (held_of parts before row) (any-own done row)))
    (λ k below other. ap (λ b. cond b (held_of parts after k) (held_of parts before k)) (any-other done row k other))

-- row i of a moved unit, by the lists that the code reads
row-at : (parts : Parts) (unit i : ℕ) (touches : List Touch) (d : Touch) → touches ≡ touches_of parts unit → i < length (touched_rows parts unit) → (get_or touches i d).row ≡ get_or (touched_rows parts unit) i 0
row-at parts unit i touches d are within = ap (λ (ts : List Touch). (get_or ts i d).row) are ∙ ap (λ (t : Touch). t.row) (get_or-touches_of parts unit i d within)

held-at : (parts : Parts) (after rows moved : List ℕ) (i d : ℕ) → moved ≡ map (held_of parts after) rows → i < length rows → get_or moved i d ≡ held_of parts after (get_or rows i 0)
held-at parts after rows moved i d are within =
    let f = held_of parts after in
    ap (λ xs. get_or xs i d) are ∙ get_or_default (map f rows) i d (f 0) (omega (arith, length-map rows f)) ∙ get_or-map f rows i 0

pub done-next : (parts : Parts) (before after : List ℕ) (unit i d : ℕ) (moved totals : List ℕ) (touches : List Touch) (e : Touch)
    → touches ≡ touches_of parts unit → moved ≡ map (held_of parts after) (touched_rows parts unit) → i < length touches → totals ≡ totals_done parts before after (take i (touched_rows parts unit))
    → set totals (get_or touches i e).row (get_or moved i d) ≡ totals_done parts before after (take (i + 1) (touched_rows parts unit))
done-next parts before after unit i d moved totals touches e are held within so_far =
    let rows = touched_rows parts unit in
    let inside : i < length rows = omega (arith, ap length are, length-touches_of parts unit) in
    ap (λ row. set totals row (get_or moved i d)) (row-at parts unit i touches e are inside)
    ∙ done-set parts before after (take i rows) totals (get_or rows i 0) (get_or moved i d) so_far (touched_rows-in_range parts unit i 0 inside) (held-at parts after rows moved i d held inside)
    ∙ ap (totals_done parts before after) (sym (take_more rows i 0 inside))

-- its row stands in the totals
pub done-inside : (parts : Parts) (before after done : List ℕ) (unit i : ℕ) (totals : List ℕ) (touches : List Touch) (e : Touch) → touches ≡ touches_of parts unit → i < length touches → totals ≡ totals_done parts before after done → (get_or touches i e).row < length totals
done-inside parts before after done unit i totals touches e are within so_far =
    let inside : i < length (touched_rows parts unit) = omega (arith, ap length are, length-touches_of parts unit) in
    let whole : length totals ≡ target_count parts = ap length so_far ∙ length-list_below (target_count parts) (λ row. cond (list_any (λ k. k == row) done) (held_of parts after row) (held_of parts before row)) in
    omega (arith, whole, row-at parts unit i touches e are inside, touched_rows-in_range parts unit i 0 inside)

any-has : (xs : List ℕ) (row : ℕ) → Contains xs row → list_any (λ k. k == row) xs ≡ true
any-has xs row (place, within, at) = list_any_at (λ k. k == row) xs place row within (eq-eqb (get_or xs place row) row at)

untouched : (parts : Parts) (unit row : ℕ) → row < target_count parts → list_any (λ k. k == row) (touched_rows parts unit) ≡ false → is_touched parts unit row ≡ false
unfolding touched_rows
untouched parts unit row within none = elim (cases_Bool (is_touched parts unit row)) [
  | inl touched ↦ absurd (false≢true (sym none ∙ any-has (touched_rows parts unit) row (places_below-has (target_count parts) row (is_touched parts unit) within touched)))
  | inr is ↦ is
]

pub done-all : (parts : Parts) (plan totals : List ℕ) (unit zone i : ℕ) (touches : List Touch) → IsValid parts → IsLegalPlan parts plan → unit < unit_count parts → IsTrue (is_allowed parts unit zone) → touches ≡ touches_of parts unit → length touches ≤ i
    → totals ≡ totals_done parts plan (moved_plan plan unit zone) (take i (touched_rows parts unit)) → totals ≡ totals_of_plan parts (moved_plan plan unit zone)
unfolding totals_of_plan
done-all parts plan totals unit zone i touches valid legal within allowed are all so_far =
    let rows = touched_rows parts unit in let after = moved_plan plan unit zone in
    so_far ∙ ap (totals_done parts plan after) (take_all i rows (omega (arith, ap length are, length-touches_of parts unit)))
    ∙ list_below-same (target_count parts) (λ r. cond (list_any (λ k. k == r) rows) (held_of parts after r) (held_of parts plan r)) (held_of parts after) 0 (λ r below. elim (cases_Bool (list_any (λ k. k == r) rows)) [
      | inl there ↦ cond-true (list_any (λ k. k == r) rows) (held_of parts after r) (held_of parts plan r) there
      | inr none ↦ cond-false (list_any (λ k. k == r) rows) (held_of parts after r) (held_of parts plan r) none ∙ sym (held-not_touched parts plan unit zone r valid legal within allowed (untouched parts unit r below none))
    ])
