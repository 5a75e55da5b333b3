-- Target rows of a moved unit: what is held for them, and their versions.
use Rattle.std.proofs.Common.{◌≡◌, ℕ, ◌+◌, ◌<◌, ◌≤◌, ◌==◌, Bool, true, false, cond, List, [], ◌∷◌, ◌++◌, length, get_or, set, take, map, refl, sym, ap, subst, ◌∙◌, arith, inl, inr, ◌⊎◌}
use Rattle.std.specs.Prelude.{◌||◌, slice_index}
use Rattle.std.specs.List.{Contains, list_any}
use Rattle.std.proofs.Math.ListN.{get_or-map}
use Rattle.std.proofs.lemmas.Bool.{cases_Bool, cases_eq, cond-false, cond-true, eq-eqb, false≢true, ne_eqb}
use Rattle.std.proofs.lemmas.List.{get_or_default, length-map, take_all, take_more}
use Rattle.std.proofs.lemmas.List.Folds.{list_any-append, list_any_at}
use Rattle.mz_num.specs.Places.{list_below}
use Rattle.mz_num.proofs.PlaceLaws.{get_or-list_below, length-list_below, list_below-from, list_below-same, list_below-set, places_below-has}
use Rattle.mz_model.specs.declared.parts.Parts.{Parts}
use Rattle.mz_model.specs.Move.{moved_plan}
use Rattle.mz_model.specs.Parts.{target_count, zone_count}
use Rattle.mz_model.specs.declared.touch.Touch.{Touch}
use Rattle.mz_model.specs.Targets.{gain_of, held_of, is_touched, touched_rows, touches_of}
use Rattle.mz_model.specs.Valid.{IsValid}
use Rattle.mz_model.proofs.ScoreLaws.{plan-in_range}
use Rattle.mz_model.proofs.ZoneLaws.{is_allowed-in_range}
use Rattle.mz_model.proofs.TouchLaws.{get_or-touches_of, length-touches_of, touched_rows-in_range}
use Rattle.mz_delta.specs.declared.judged.Judged.{Judged}
use Rattle.mz_delta.specs.Reading.{totals_of_plan}
use Rattle.mz_delta.proofs.MoveLaws.{held-moved}
use Rattle.mz_delta.proofs.RowLaws.{gain_of-not_touched, held-not_touched}
use Rattle.mz_state.specs.Standing.{IsMoveFrom}
use Rattle.mz_state.specs.Versions.{raised_rows}

-- ---- values of which some are new

-- the values by place: those of g at the places that are done, and those of f elsewhere
abbrev pub merged : ℕ → (ℕ → ℕ) → (ℕ → ℕ) → List ℕ → List ℕ
merged n f g done = list_below n (λ r. cond (list_any (λ k. k == r) done) (g r) (f r))

or-true : (a : Bool) → (a || true) ≡ true
or-true true = refl
or-true false = refl

or-false : (a : Bool) → (a || false) ≡ a
or-false true = refl
or-false false = refl

any-own : (done : List ℕ) (row : ℕ) → list_any (λ k. k == row) (done ++ row ∷ []) ≡ true
any-own done row = list_any-append (λ k. k == row) done (row ∷ []) ∙ ap (λ b. list_any (λ k. k == row) done || (b || false)) (eq-eqb row row refl) ∙ or-true (list_any (λ k. k == row) done)

any-other : (done : List ℕ) (row k : ℕ) → (k ≡ row → ⊥) → list_any (λ j. j == k) done ≡ list_any (λ j. j == k) (done ++ row ∷ [])
any-other done row k other = sym (list_any-append (λ j. j == k) done (row ∷ []) ∙ ap (λ b. list_any (λ j. j == k) done || (b || false)) (ne_eqb row k (λ e. other (sym e))) ∙ or-false (list_any (λ j. j == k) done))

merged-at : (n : ℕ) (f g : ℕ → ℕ) (done xs : List ℕ) (row : ℕ) → xs ≡ merged n f g done → row < n → get_or xs row 0 ≡ cond (list_any (λ k. k == row) done) (g row) (f row)
merged-at n f g done xs row are within = ap (λ ys. get_or ys row 0) are ∙ get_or-list_below n row (λ r. cond (list_any (λ k. k == r) done) (g r) (f r)) 0 within

merged-set : (n : ℕ) (f g : ℕ → ℕ) (done xs xs' : List ℕ) (row x : ℕ) → xs ≡ merged n f g done → row < n → xs' ≡ set xs row x → x ≡ g row → xs' ≡ merged n f g (done ++ row ∷ [])
merged-set n f g done xs xs' row x are within changed new =
    changed ∙ ap (λ ys. set ys row x) are
    ∙ list_below-set n row (λ r. cond (list_any (λ k. k == r) done) (g r) (f r)) (λ r. cond (list_any (λ k. k == r) (done ++ row ∷ [])) (g r) (f r)) x 0 within
    (new ∙ sym (cond-true (list_any (λ k. k == row) (done ++ row ∷ [])) (g row) (f row) (any-own done row)))
    (λ k below other. ap (λ b. cond b (g k) (f k)) (any-other done row k other))

own_row : (done : List ℕ) (row before after : ℕ) → (list_any (λ k. k == row) done ≡ true) ⊎ (before ≡ after) → cond (list_any (λ k. k == row) done) after before ≡ after
own_row done row before after (inl there) = cond-true (list_any (λ k. k == row) done) after before there
own_row done row before after (inr same) = elim (cases_Bool (list_any (λ k. k == row) done)) [
  | inl there ↦ cond-true (list_any (λ k. k == row) done) after before there
  | inr fresh ↦ cond-false (list_any (λ k. k == row) done) after before fresh ∙ same
]

merged-skip : (n : ℕ) (f g : ℕ → ℕ) (done xs : List ℕ) (row : ℕ) → xs ≡ merged n f g done → (list_any (λ k. k == row) done ≡ true) ⊎ (f row ≡ g row) → xs ≡ merged n f g (done ++ row ∷ [])
merged-skip n f g done xs row are why =
    are ∙ list_below-same n (λ r. cond (list_any (λ k. k == r) done) (g r) (f r)) (λ r. cond (list_any (λ k. k == r) (done ++ row ∷ [])) (g r) (f r)) 0
    (λ k below. elim (cases_eq k row) [
      | inl e ↦ subst (λ r. cond (list_any (λ k. k == r) done) (g r) (f r) ≡ cond (list_any (λ k. k == r) (done ++ row ∷ [])) (g r) (f r)) (sym e)
          (own_row done row (f row) (g row) why ∙ sym (cond-true (list_any (λ k. k == row) (done ++ row ∷ [])) (g row) (f row) (any-own done row)))
      | inr other ↦ ap (λ b. cond b (g k) (f k)) (any-other done row k other)
    ])

-- ---- the rows of a move

abbrev pub before_of : Parts → List ℕ → ℕ → ℕ
before_of parts plan = held_of parts plan

abbrev pub after_of : Parts → List ℕ → Judged → ℕ → ℕ
after_of parts plan judged = held_of parts (moved_plan plan judged.unit judged.new)

abbrev pub raised : Parts → Judged → ℕ → List ℕ → ℕ → ℕ
raised parts judged count versions row = cond (gain_of parts row judged.unit judged.old == gain_of parts row judged.unit judged.new) (slice_index versions row) count

pub record AreRowsDone (parts : Parts) (plan : List ℕ) (judged : Judged) (count : ℕ) (old done totals versions : List ℕ) : Type 0 where
  pub totals_are : totals ≡ merged (target_count parts) (before_of parts plan) (after_of parts plan judged) done
  pub versions_are : versions ≡ merged (target_count parts) (slice_index old) (raised parts judged count old) done

-- a row of which as much is held as before is one for which the unit gains the same
held-gains : (parts : Parts) (plan : List ℕ) (judged : Judged) (row : ℕ) → IsMoveFrom parts plan judged → after_of parts plan judged row + gain_of parts row judged.unit judged.old ≡ before_of parts plan row + gain_of parts row judged.unit judged.new
held-gains parts plan judged row moves =
    ap (λ z. after_of parts plan judged row + gain_of parts row judged.unit z) moves.from ∙ held-moved parts plan judged.unit judged.new row moves.legal moves.unit

pub rows-none : (parts : Parts) (plan : List ℕ) (judged : Judged) (count : ℕ) (totals versions : List ℕ) → totals ≡ totals_of_plan parts plan → length versions ≡ target_count parts → AreRowsDone parts plan judged count versions [] totals versions
unfolding totals_of_plan
rows-none parts plan judged count totals versions are whole = record {
  totals_are = are;
  versions_are = list_below-from (target_count parts) (slice_index versions) versions 0 whole (λ k h. refl);
}

pub rows-set : (parts : Parts) (plan : List ℕ) (judged : Judged) (count : ℕ) (old done totals totals' versions versions' : List ℕ) (row moved : ℕ) → IsMoveFrom parts plan judged → AreRowsDone parts plan judged count old done totals versions
    → row < target_count parts → (get_or totals row 0 ≡ moved → ⊥) → moved ≡ after_of parts plan judged row → totals' ≡ set totals row moved → versions' ≡ set versions row count
    → AreRowsDone parts plan judged count old (done ++ row ∷ []) totals' versions'
rows-set parts plan judged count old done totals totals' versions versions' row moved moves so_far within differs is set_totals set_versions =
    let n = target_count parts in let f = before_of parts plan in let g = after_of parts plan judged in
    let here = merged-at n f g done totals row so_far.totals_are within in
    let fresh : list_any (λ k. k == row) done ≡ false = elim (cases_Bool (list_any (λ k. k == row) done)) [
      | inl there ↦ absurd (differs (here ∙ cond-true (list_any (λ k. k == row) done) (g row) (f row) there ∙ sym is))
      | inr is_not ↦ is_not
    ] in
    let was : get_or totals row 0 ≡ f row = here ∙ cond-false (list_any (λ k. k == row) done) (g row) (f row) fresh in
    let gains = held-gains parts plan judged row moves in
    let apart : (gain_of parts row judged.unit judged.old == gain_of parts row judged.unit judged.new) ≡ false =
    ne_eqb (gain_of parts row judged.unit judged.old) (gain_of parts row judged.unit judged.new) (λ e. differs (was ∙ (let same : f row ≡ g row = omega (arith, gains, e) in same) ∙ sym is)) in record {
      totals_are = merged-set n f g done totals totals' row moved so_far.totals_are within set_totals is;
      versions_are = merged-set n (slice_index old) (raised parts judged count old) done versions versions' row count so_far.versions_are within set_versions (sym (cond-false (gain_of parts row judged.unit judged.old == gain_of parts row judged.unit judged.new) (slice_index old row) count apart));
    }

pub rows-skip : (parts : Parts) (plan : List ℕ) (judged : Judged) (count : ℕ) (old done totals versions : List ℕ) (row moved : ℕ) → IsMoveFrom parts plan judged → AreRowsDone parts plan judged count old done totals versions
    → row < target_count parts → get_or totals row 0 ≡ moved → moved ≡ after_of parts plan judged row → AreRowsDone parts plan judged count old (done ++ row ∷ []) totals versions
rows-skip parts plan judged count old done totals versions row moved moves so_far within same is =
    let n = target_count parts in let f = before_of parts plan in let g = after_of parts plan judged in
    let here = merged-at n f g done totals row so_far.totals_are within in
    elim (cases_Bool (list_any (λ k. k == row) done)) [
      | inl there ↦ record {
        totals_are = merged-skip n f g done totals row so_far.totals_are (inl there);
        versions_are = merged-skip n (slice_index old) (raised parts judged count old) done versions row so_far.versions_are (inl there);
      }
      | inr fresh ↦
          let held : f row ≡ g row = sym (here ∙ cond-false (list_any (λ k. k == row) done) (g row) (f row) fresh) ∙ same ∙ is in
          let gains = held-gains parts plan judged row moves in
          let equal : (gain_of parts row judged.unit judged.old == gain_of parts row judged.unit judged.new) ≡ true =
          eq-eqb (gain_of parts row judged.unit judged.old) (gain_of parts row judged.unit judged.new) (omega (arith, gains, held)) in record {
            totals_are = merged-skip n f g done totals row so_far.totals_are (inr held);
            versions_are = merged-skip n (slice_index old) (raised parts judged count old) done versions row so_far.versions_are (inr (sym (cond-true (gain_of parts row judged.unit judged.old == gain_of parts row judged.unit judged.new) (slice_index old row) count equal)));
          }
    ]

any-has : (xs : List ℕ) (row : ℕ) → Contains xs row → list_any (λ k. k == row) xs ≡ true
any-has xs row (place, within, at) = list_any_at (λ k. k == row) xs place row within (eq-eqb (get_or xs place row) row at)

untouched : (parts : Parts) (unit row : ℕ) → row < target_count parts → list_any (λ k. k == row) (touched_rows parts unit) ≡ false → is_touched parts unit row ≡ false
unfolding touched_rows
untouched parts unit row within none = elim (cases_Bool (is_touched parts unit row)) [
  | inl touched ↦ absurd (false≢true (sym none ∙ any-has (touched_rows parts unit) row (places_below-has (target_count parts) row (is_touched parts unit) within touched)))
  | inr is ↦ is
]

pub record AreRowsMoved (parts : Parts) (plan : List ℕ) (judged : Judged) (count : ℕ) (old totals versions : List ℕ) : Type 0 where
  pub totals_are : totals ≡ totals_of_plan parts (moved_plan plan judged.unit judged.new)
  pub versions_are : versions ≡ raised_rows parts judged.unit judged.old judged.new count old

pub rows-all : (parts : Parts) (plan : List ℕ) (judged : Judged) (count : ℕ) (old totals versions : List ℕ) → IsValid parts → IsMoveFrom parts plan judged → AreRowsDone parts plan judged count old (touched_rows parts judged.unit) totals versions → AreRowsMoved parts plan judged count old totals versions
unfolding totals_of_plan
rows-all parts plan judged count old totals versions valid moves done =
    let n = target_count parts in let rows = touched_rows parts judged.unit in let f = before_of parts plan in let g = after_of parts plan judged in
    let zone : judged.new < zone_count parts = is_allowed-in_range parts judged.unit judged.new valid moves.unit moves.allowed in
    let old_zone : judged.old < zone_count parts = let is = plan-in_range parts plan judged.unit valid moves.legal moves.unit in omega (arith, moves.from) in record {
      totals_are = done.totals_are ∙ list_below-same n (λ r. cond (list_any (λ k. k == r) rows) (g r) (f r)) g 0 (λ r within. elim (cases_Bool (list_any (λ k. k == r) rows)) [
        | inl there ↦ cond-true (list_any (λ k. k == r) rows) (g r) (f r) there
        | inr none ↦ cond-false (list_any (λ k. k == r) rows) (g r) (f r) none ∙ sym (held-not_touched parts plan judged.unit judged.new r valid moves.legal moves.unit moves.allowed (untouched parts judged.unit r within none))
      ]);
      versions_are = done.versions_are ∙ list_below-same n (λ r. cond (list_any (λ k. k == r) rows) (raised parts judged count old r) (slice_index old r)) (raised parts judged count old) 0 (λ r within. elim (cases_Bool (list_any (λ k. k == r) rows)) [
        | inl there ↦ cond-true (list_any (λ k. k == r) rows) (raised parts judged count old r) (slice_index old r) there
        | inr none ↦ let still = untouched parts judged.unit r within none in
            let equal : gain_of parts r judged.unit judged.old ≡ gain_of parts r judged.unit judged.new = gain_of-not_touched parts judged.unit r judged.old old_zone still ∙ sym (gain_of-not_touched parts judged.unit r judged.new zone still) in
            cond-false (list_any (λ k. k == r) rows) (raised parts judged count old r) (slice_index old r) none
            ∙ sym (cond-true (gain_of parts r judged.unit judged.old == gain_of parts r judged.unit judged.new) (slice_index old r) count (eq-eqb _ _ equal))
      ]);
    }

-- ---- one row more

default-free : (xs : List ℕ) (k d : ℕ) → k < length xs → get_or xs k d ≡ get_or xs k 0
default-free xs k d within = get_or_default xs k d 0 within

pub row-at : (parts : Parts) (unit i : ℕ) (touches : List Touch) (d : Touch) → touches ≡ touches_of parts unit → i < length (touched_rows parts unit) → (get_or touches i d).row ≡ get_or (touched_rows parts unit) i 0
row-at parts unit i touches d are within = ap (λ (ts : List Touch). (get_or ts i d).row) are ∙ ap (λ (t : Touch). t.row) (get_or-touches_of parts unit i d within)

moved-at : (parts : Parts) (plan : List ℕ) (judged : Judged) (i d : ℕ) → IsMoveFrom parts plan judged → i < length (touched_rows parts judged.unit) → get_or judged.totals.items i d ≡ after_of parts plan judged (get_or (touched_rows parts judged.unit) i 0)
moved-at parts plan judged i d moves within =
    let f = after_of parts plan judged in let rows = touched_rows parts judged.unit in
    ap (λ xs. get_or xs i d) moves.difference.totals ∙ get_or_default (map f rows) i d (f 0) (omega (arith, length-map rows f)) ∙ get_or-map f rows i 0

pub next-set : (parts : Parts) (plan : List ℕ) (judged : Judged) (count i d e at : ℕ) (old moved totals totals' versions versions' : List ℕ) (touches : List Touch) (e1 : Touch) → IsMoveFrom parts plan judged
    → moved ≡ judged.totals.items → at ≡ get_or totals (get_or touches i e1).row e → touches ≡ touches_of parts judged.unit → i < length touches → AreRowsDone parts plan judged count old (take i (touched_rows parts judged.unit)) totals versions
    → (at ≡ get_or moved i d → ⊥) → totals' ≡ set totals (get_or touches i e1).row (get_or moved i d) → versions' ≡ set versions (get_or touches i e1).row count
    → AreRowsDone parts plan judged count old (take (i + 1) (touched_rows parts judged.unit)) totals' versions'
next-set parts plan judged count i d e at old moved totals totals' versions versions' touches e1 moves own found are within so_far differs set_totals set_versions =
    let rows = touched_rows parts judged.unit in
    let inside : i < length rows = omega (arith, ap length are, length-touches_of parts judged.unit) in
    let row : (get_or touches i e1).row ≡ get_or rows i 0 = row-at parts judged.unit i touches e1 are inside in
    let low : get_or rows i 0 < target_count parts = touched_rows-in_range parts judged.unit i 0 inside in
    subst (λ done. AreRowsDone parts plan judged count old done totals' versions') (sym (take_more rows i 0 inside))
    (rows-set parts plan judged count old (take i rows) totals totals' versions versions' (get_or rows i 0) (get_or judged.totals.items i d) moves so_far low
    (λ same. differs (found ∙ ap (λ r. get_or totals r e) row ∙ default-free totals (get_or rows i 0) e (omega (arith, ap length so_far.totals_are, length-list_below (target_count parts) (λ r. cond (list_any (λ k. k == r) (take i rows)) (after_of parts plan judged r) (before_of parts plan r)))) ∙ same ∙ ap (λ xs. get_or xs i d) (sym own)))
    (moved-at parts plan judged i d moves inside) (set_totals ∙ ap (λ xs. set totals (get_or touches i e1).row (get_or xs i d)) own ∙ ap (λ r. set totals r (get_or judged.totals.items i d)) row) (set_versions ∙ ap (λ r. set versions r count) row))

pub next-skip : (parts : Parts) (plan : List ℕ) (judged : Judged) (count i d e at : ℕ) (old moved totals totals' versions versions' : List ℕ) (touches : List Touch) (e1 : Touch) → IsMoveFrom parts plan judged
    → moved ≡ judged.totals.items → at ≡ get_or totals (get_or touches i e1).row e → touches ≡ touches_of parts judged.unit → i < length touches → AreRowsDone parts plan judged count old (take i (touched_rows parts judged.unit)) totals versions
    → at ≡ get_or moved i d → totals' ≡ totals → versions' ≡ versions
    → AreRowsDone parts plan judged count old (take (i + 1) (touched_rows parts judged.unit)) totals' versions'
next-skip parts plan judged count i d e at old moved totals totals' versions versions' touches e1 moves own found are within so_far same same_totals same_versions =
    let rows = touched_rows parts judged.unit in
    let inside : i < length rows = omega (arith, ap length are, length-touches_of parts judged.unit) in
    let row : (get_or touches i e1).row ≡ get_or rows i 0 = row-at parts judged.unit i touches e1 are inside in
    let low : get_or rows i 0 < target_count parts = touched_rows-in_range parts judged.unit i 0 inside in
    subst (λ ts. AreRowsDone parts plan judged count old (take (i + 1) rows) ts versions') (sym same_totals)
    (subst (λ vs. AreRowsDone parts plan judged count old (take (i + 1) rows) totals vs) (sym same_versions)
    (subst (λ done. AreRowsDone parts plan judged count old done totals versions) (sym (take_more rows i 0 inside))
    (rows-skip parts plan judged count old (take i rows) totals versions (get_or rows i 0) (get_or judged.totals.items i d) moves so_far low
    (sym (found ∙ ap (λ r. get_or totals r e) row ∙ default-free totals (get_or rows i 0) e (omega (arith, ap length so_far.totals_are, length-list_below (target_count parts) (λ r. cond (list_any (λ k. k == r) (take i rows)) (after_of parts plan judged r) (before_of parts plan r))))) ∙ same ∙ ap (λ xs. get_or xs i d) own)
    (moved-at parts plan judged i d moves inside))))

pub rows-done : (parts : Parts) (plan : List ℕ) (judged : Judged) (count i : ℕ) (old totals versions : List ℕ) (touches : List Touch) → IsValid parts → IsMoveFrom parts plan judged → touches ≡ touches_of parts judged.unit → length touches ≤ i
    → AreRowsDone parts plan judged count old (take i (touched_rows parts judged.unit)) totals versions → AreRowsMoved parts plan judged count old totals versions
rows-done parts plan judged count i old totals versions touches valid moves are all so_far =
    rows-all parts plan judged count old totals versions valid moves
    (subst (λ done. AreRowsDone parts plan judged count old done totals versions) (take_all i (touched_rows parts judged.unit) (omega (arith, ap length are, length-touches_of parts judged.unit))) so_far)
