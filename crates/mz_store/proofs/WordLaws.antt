-- The published words: what entries write into them, and what they are after a journal.
use Rattle.std.proofs.Common.{◌≡◌, ℕ, zero, suc, ◌+◌, ◌<◌, Bool, true, false, cond, List, [], ◌∷◌, ◌++◌, length, length-append, get_or, map, Option, None, Some, unwrap_or, refl, sym, ap, ◌∙◌, subst, arith, inl, inr}
use Rattle.std.specs.Prelude.{◌&&◌, ◌==◌, slice_index_or}
use Rattle.std.specs.List.{All, filter}
use Rattle.std.proofs.lemmas.Bool.{cases_Bool, cases_eq, eq-eqb, false≢true, ne_eqb}
use Rattle.std.proofs.lemmas.List.{get_or_append_left, get_or-append-add}
use Rattle.std.proofs.Math.Seq.{get_or-append_seam}
use Rattle.mz_board.specs.Items.{value_after, word_of, written}
use Rattle.mz_board.proofs.ItemLemmas.{value_push}
use Rattle.mz_model.specs.Items.{Item, row_item, unit_item}
use Rattle.mz_model.specs.Parts.{unit_count}
use Rattle.mz_model.specs.Targets.{touched_rows}
use Rattle.mz_model.specs.Valid.{IsValid}
use Rattle.mz_delta.specs.Reading.{totals_of_plan}
use Rattle.mz_delta.proofs.ReadLaws.{totals_of_plan-at}
use Rattle.mz_history.specs.declared.entry.Entry.{Entry}
use Rattle.mz_history.specs.Items.{changes, value_of_item}
use Rattle.mz_history.specs.Moves.{IsMove}
use Rattle.mz_history.specs.Replay.{IsLegalHistory, Setting}
use Rattle.mz_history.specs.Start.{starting_plan}
use Rattle.mz_history.proofs.LegalHistoryLaws.{IsLegalStep, last_plan-legal, legal-induction, legal-none}
use Rattle.mz_store.specs.Told.{told, told_all, WordsFollow, writes, writes_of}
use Rattle.mz_store.specs.Words.{IsItem, opening_words, word_of_item}
use Rattle.mz_store.proofs.ItemLaws.{changed-accepted, changed-touched, changed-unit, step-keeps}
use Rattle.mz_store.proofs.ToldLaws.{told-push}

-- ---- writes of rows, whose words begin at a base

module _ (base : ℕ) (f : ℕ → ℕ) (p : ℕ → Bool) where
  abbrev row_words : List ℕ → List (ℕ × ℕ)
  row_words rows = map (λ (row : ℕ). (base + row, f row)) rows

  other-rows : (word : ℕ) (rows : List ℕ) → ((row : ℕ) → p row ≡ true → base + row ≡ word → ⊥) → written word (row_words (filter p rows)) ≡ None
  other-rows word [] apart = refl
  other-rows word (row ∷ rows) apart = elim (cases_Bool (p row)) [
    | inl passes ↦ ap (λ b. written word (row_words (cond b (row ∷ filter p rows) (filter p rows)))) passes
        ∙ ap (λ b. cond b (Some (f row)) (written word (row_words (filter p rows)))) (ne_eqb (base + row) word (apart row passes)) ∙ other-rows word rows apart
    | inr fails ↦ ap (λ b. written word (row_words (cond b (row ∷ filter p rows) (filter p rows)))) fails ∙ other-rows word rows apart
  ]

  own-row : (row : ℕ) (rows : List ℕ) (k : ℕ) → p row ≡ true → k < length rows → slice_index_or rows k row ≡ row → written (base + row) (row_words (filter p rows)) ≡ Some (f row)
  own-row row [] k passes within at = absurd (omega arith)
  own-row row (x ∷ xs) zero passes within at =
      ap (λ b. written (base + row) (row_words (cond b (x ∷ filter p xs) (filter p xs)))) (ap p at ∙ passes)
      ∙ ap (λ b. cond b (Some (f x)) (written (base + row) (row_words (filter p xs)))) (eq-eqb (base + x) (base + row) (ap (λ n. base + n) at)) ∙ ap (λ n. Some (f n)) at
  own-row row (x ∷ xs) (suc k) passes within at = let later = own-row row xs k passes (omega arith) at in elim (cases_Bool (p x)) [
    | inl here ↦ ap (λ b. written (base + row) (row_words (cond b (x ∷ filter p xs) (filter p xs)))) here ∙ elim (cases_eq x row) [
      | inl same ↦ ap (λ b. cond b (Some (f x)) (written (base + row) (row_words (filter p xs)))) (eq-eqb (base + x) (base + row) (ap (λ n. base + n) same)) ∙ ap (λ n. Some (f n)) same
      | inr other ↦ ap (λ b. cond b (Some (f x)) (written (base + row) (row_words (filter p xs)))) (ne_eqb (base + x) (base + row) (λ e. other (omega arith))) ∙ later
    ]
    | inr fails ↦ ap (λ b. written (base + row) (row_words (cond b (x ∷ filter p xs) (filter p xs)))) fails ∙ later
  ]

-- ---- what an entry writes

map-map : {X Y Z : Type 0} (f : Y → Z) (g : X → Y) (xs : List X) → map f (map g xs) ≡ map (λ x. f (g x)) xs
map-map f g [] = refl
map-map f g (x ∷ xs) = ap (λ zs. f (g x) ∷ zs) (map-map f g xs)

module _ (s : Setting) (history : List Entry) (entry : Entry) where
  abbrev value_then : Item → ℕ
  value_then item = value_of_item s (history ++ entry ∷ []) item

  abbrev changes_row : ℕ → Bool
  changes_row row = changes s.parts entry (row_item row)

  -- the unit's word, and those of the changed rows
  pub accepted-writes : entry.accepted ≡ true → writes_of s history entry ≡ (entry.unit, value_then (unit_item entry.unit))
      ∷ map (λ (row : ℕ). (unit_count s.parts + row, value_then (row_item row))) (filter changes_row (touched_rows s.parts entry.unit))
  accepted-writes taken =
      ap (λ b. map (λ item. (word_of_item s.parts item, value_then item)) (cond b (unit_item entry.unit ∷ map row_item (filter changes_row (touched_rows s.parts entry.unit))) [])) taken
      ∙ ap (λ (ws : List (ℕ × ℕ)). (entry.unit, value_then (unit_item entry.unit)) ∷ ws)
      (map-map (λ (item : Item). (word_of_item s.parts item, value_then item)) row_item (filter changes_row (touched_rows s.parts entry.unit)))

  pub refused-writes : entry.accepted ≡ false → writes_of s history entry ≡ []
  refused-writes refused =
      ap (λ b. map (λ item. (word_of_item s.parts item, value_then item)) (cond b (unit_item entry.unit ∷ map row_item (filter changes_row (touched_rows s.parts entry.unit))) [])) refused

  abbrev row_part : List (ℕ × ℕ)
  row_part = map (λ (row : ℕ). (unit_count s.parts + row, value_then (row_item row))) (filter changes_row (touched_rows s.parts entry.unit))

  changed-word : (item : Item) → IsValid s.parts → IsMove s.parts entry → IsItem s.parts item → changes s.parts entry item ≡ true
      → written (word_of_item s.parts item) ((entry.unit, value_then (unit_item entry.unit)) ∷ row_part) ≡ Some (value_then item)
  changed-word (unit_item unit) valid move within change = let own = changed-unit s.parts entry unit change in
      ap (λ b. cond b (Some (value_then (unit_item entry.unit))) (written unit row_part)) (eq-eqb entry.unit unit own) ∙ ap (λ u. Some (value_then (unit_item u))) own
  changed-word (row_item row) valid move within change = let has = changed-touched s.parts entry row valid move within change in
      ap (λ b. cond b (Some (value_then (unit_item entry.unit))) (written (unit_count s.parts + row) row_part)) (ne_eqb entry.unit (unit_count s.parts + row) (λ e. absurd (omega (arith, move.unit))))
      ∙ own-row (unit_count s.parts) (λ (r : ℕ). value_then (row_item r)) changes_row row (touched_rows s.parts entry.unit) has.0 change has.1 has.2

  same-word : (item : Item) → IsMove s.parts entry → IsItem s.parts item → entry.accepted ≡ true → changes s.parts entry item ≡ false
      → written (word_of_item s.parts item) ((entry.unit, value_then (unit_item entry.unit)) ∷ row_part) ≡ None
  same-word (unit_item unit) move within taken stays =
      ap (λ b. cond b (Some (value_then (unit_item entry.unit))) (written unit row_part))
      (ne_eqb entry.unit unit (λ e. false≢true (sym stays ∙ ap (λ b. b && entry.unit == unit) taken ∙ eq-eqb entry.unit unit e)))
      ∙ other-rows (unit_count s.parts) (λ (r : ℕ). value_then (row_item r)) changes_row unit (touched_rows s.parts entry.unit) (λ row h e. absurd (omega arith))
  same-word (row_item row) move within taken stays =
      ap (λ b. cond b (Some (value_then (unit_item entry.unit))) (written (unit_count s.parts + row) row_part)) (ne_eqb entry.unit (unit_count s.parts + row) (λ e. absurd (omega (arith, move.unit))))
      ∙ other-rows (unit_count s.parts) (λ (r : ℕ). value_then (row_item r)) changes_row (unit_count s.parts + row) (touched_rows s.parts entry.unit)
      (λ other h e. let same : other ≡ row = omega arith in false≢true (sym stays ∙ ap changes_row (sym same) ∙ h))

  -- a changed item is written its value after the entry
  pub written-changed : (item : Item) → IsValid s.parts → IsMove s.parts entry → IsItem s.parts item → changes s.parts entry item ≡ true
      → written (word_of_item s.parts item) (writes_of s history entry) ≡ Some (value_then item)
  written-changed item valid move within change =
      ap (written (word_of_item s.parts item)) (accepted-writes (changed-accepted s.parts entry item change)) ∙ changed-word item valid move within change

  -- and no other item is written
  pub written-same : (item : Item) → IsMove s.parts entry → IsItem s.parts item → changes s.parts entry item ≡ false
      → written (word_of_item s.parts item) (writes_of s history entry) ≡ None
  written-same item move within stays = elim (cases_Bool entry.accepted) [
    | inl taken ↦ ap (written (word_of_item s.parts item)) (accepted-writes taken) ∙ same-word item move within taken stays
    | inr refused ↦ ap (written (word_of_item s.parts item)) (refused-writes refused)
  ]

-- ---- the law

opening-word : (s : Setting) (item : Item) → IsValid s.parts → IsItem s.parts item → word_of (opening_words s) (word_of_item s.parts item) ≡ value_of_item s [] item
opening-word s (unit_item unit) valid within =
    let plan = starting_plan s.parts s.prop s.seed s.run in let whole = (last_plan-legal s [] valid (legal-none s)).whole in
    get_or_append_left plan (totals_of_plan s.parts plan) 0 unit (omega (arith, whole))
opening-word s (row_item row) valid within =
    let plan = starting_plan s.parts s.prop s.seed s.run in let whole = (last_plan-legal s [] valid (legal-none s)).whole in
    ap (λ (n : ℕ). get_or (plan ++ totals_of_plan s.parts plan) (n + row) 0) (sym whole)
    ∙ get_or-append-add plan (totals_of_plan s.parts plan) row 0 ∙ totals_of_plan-at s.parts plan (totals_of_plan s.parts plan) row refl within

pub all-front : {X : Type 0} (P : X → Type 0) (xs : List X) (x : X) → All P (xs ++ x ∷ []) → All P xs
all-front P xs x all = λ k d h. subst P (get_or_append_left xs (x ∷ []) d k h) (all k d (omega (arith, length-append xs (x ∷ []))))

pub all-last : {X : Type 0} (P : X → Type 0) (xs : List X) (x : X) → All P (xs ++ x ∷ []) → P x
all-last P xs x all = subst P (get_or-append_seam xs x [] x) (all (length xs) x (omega (arith, length-append xs (x ∷ []))))

next-word : (s : Setting) (before : List Entry) (entry : Entry) (item : Item) → IsValid s.parts → IsLegalStep s before entry → IsMove s.parts entry → IsItem s.parts item
    → value_after writes (word_of_item s.parts item) (word_of (opening_words s) (word_of_item s.parts item)) (told_all s before) ≡ value_of_item s before item
    → value_after writes (word_of_item s.parts item) (word_of (opening_words s) (word_of_item s.parts item)) (told_all s (before ++ entry ∷ [])) ≡ value_of_item s (before ++ entry ∷ []) item
next-word s before entry item valid step move within so_far =
    let word = word_of_item s.parts item in let start = word_of (opening_words s) word in
    ap (value_after writes word start) (told-push s before entry) ∙ value_push writes word start (told_all s before) (told s before entry) ∙ elim (cases_Bool (changes s.parts entry item)) [
      | inl change ↦ ap (λ (o : Option ℕ). unwrap_or o (value_after writes word start (told_all s before))) (written-changed s before entry item valid move within change)
      | inr stays ↦ ap (λ (o : Option ℕ). unwrap_or o (value_after writes word start (told_all s before))) (written-same s before entry item move within stays)
          ∙ so_far ∙ sym (step-keeps s before entry item valid step stays)
    ]

-- by the writes of a legal journal and the opening words, each item has its value in the journal's last plan
pub words-follow : (s : Setting) (journal : List Entry) → IsValid s.parts → IsLegalHistory s journal → All (IsMove s.parts) journal → WordsFollow s (opening_words s) journal
words-follow s journal valid legal moves =
    legal-induction s (λ (h : List Entry). All (IsMove s.parts) h → WordsFollow s (opening_words s) h) journal legal
    (λ none item within. opening-word s item valid within)
    (λ before entry step so_far all item within. next-word s before entry item valid step (all-last (IsMove s.parts) before entry all) within (so_far (all-front (IsMove s.parts) before entry all) item within))
    moves
