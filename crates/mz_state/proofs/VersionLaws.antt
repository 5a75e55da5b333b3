-- Versions of items, and the entry that overtakes a reading.
use Rattle.std.proofs.Common.{◌≡◌, ℕ, ◌+◌, ◌<◌, ◌≤◌, Bool, List, [], ◌∷◌, ◌++◌, length, map, get_or, None, refl, sym, ap, ◌∙◌, arith, inl, inr, length-append, suc}
use Rattle.std.specs.Prelude.{max, slice_index, slice_index_or, if◌then◌else◌}
use Rattle.std.specs.List.{All}
use Rattle.std.proofs.lemmas.Bool.{cases_Bool}
use Rattle.std.proofs.Math.ListN.{get_or-append}
use Rattle.std.proofs.Math.Seq.{get_or-append_seam}
use Rattle.mz_num.proofs.PlaceLaws.{get_or-list_below}
use Rattle.mz_model.specs.declared.neighbour.Neighbour.{Neighbour}
use Rattle.mz_model.specs.declared.parts.Parts.{Parts}
use Rattle.mz_model.specs.declared.touch.Touch.{Touch}
use Rattle.mz_model.specs.Boundary.{neighbours_of}
use Rattle.mz_model.specs.Items.{Item, items_of, row_item, unit_item}
use Rattle.mz_model.specs.Parts.{target_count, unit_count}
use Rattle.mz_model.specs.Targets.{amount_for, as_touch, touched_rows, touches_of}
use Rattle.mz_model.specs.Valid.{IsValid}
use Rattle.mz_model.proofs.NeighbourLaws.{neighbours_of-in_range}
use Rattle.mz_model.proofs.TouchLaws.{touched_rows-in_range}
use Rattle.mz_history.specs.declared.entry.Entry.{Entry}
use Rattle.mz_history.specs.Items.{changes, changes_around}
use Rattle.mz_history.specs.Verdict.{no_entry, overtaking_entry}
use Rattle.mz_history.proofs.OvertakenLaws.{around-accepted_only}
use Rattle.mz_state.specs.Kept.{AreVersions, KeptState}
use Rattle.mz_state.specs.Versions.{greatest_by, last_accepted, position_past, reach_of, version_around, version_of}
use Rattle.mz_state.proofs.ReachLaws.{greatest_by-append, greatest_by-map, last-past, past-false, reach-any, reach-failed, reach-mono, reach-passed, reach-same}

-- ---- one entry more

-- how far a test of entries reaches, with one entry more
reach-push : (test : Entry → Bool) (journal : List Entry) (entry : Entry) → reach_of (λ k. test (get_or (journal ++ entry ∷ []) k no_entry)) (length (journal ++ entry ∷ []))
    ≡ (if test entry then length journal + 1 else reach_of (λ k. test (get_or journal k no_entry)) (length journal))
reach-push test journal entry =
    let n = length journal in let longer = λ (k : ℕ). test (get_or (journal ++ entry ∷ []) k no_entry) in
    let last : longer n ≡ test entry = ap test (get_or-append_seam journal entry [] no_entry) in
    let before : reach_of longer n ≡ reach_of (λ k. test (get_or journal k no_entry)) n = reach-same longer (λ k. test (get_or journal k no_entry)) n (λ k below. ap test (get_or-append journal (entry ∷ []) no_entry k below)) in
    ap (reach_of longer) (length-append journal (entry ∷ [])) ∙
    elim (cases_Bool (test entry)) [
      | inl passes ↦ reach-passed longer n (last ∙ passes) ∙ (rw passes refl)
      | inr fails ↦ reach-failed longer n (last ∙ fails) ∙ before ∙ (rw fails refl)
    ]

pub version-push : (parts : Parts) (journal : List Entry) (entry : Entry) (item : Item) → version_of parts (journal ++ entry ∷ []) item ≡ (if changes parts entry item then length journal + 1 else version_of parts journal item)
version-push parts journal entry item = reach-push (λ e. changes parts e item) journal entry

pub last_accepted-push : (journal : List Entry) (entry : Entry) → last_accepted (journal ++ entry ∷ []) ≡ (if entry.accepted then length journal + 1 else last_accepted journal)
last_accepted-push journal entry = reach-push (λ e. e.accepted) journal entry

-- ---- the items of a unit

greatest_by-same : {X : Type 0} (f g : X → ℕ) (xs : List X) → All (λ x. f x ≡ g x) xs → greatest_by f xs ≡ greatest_by g xs
greatest_by-same f g [] same = refl
greatest_by-same f g (x ∷ xs) same = ap (λ n. max n (greatest_by f xs)) (same 0 x (omega arith)) ∙ ap (max (g x)) (greatest_by-same f g xs (λ k d h. same (suc k) d (omega arith)))

items-greatest : (parts : Parts) (unit : ℕ) (f : Item → ℕ) → greatest_by f (items_of parts unit)
    ≡ max (f (unit_item unit)) (max (greatest_by (λ (n : Neighbour). f (unit_item n.unit)) (neighbours_of parts unit)) (greatest_by (λ row. f (row_item row)) (touched_rows parts unit)))
unfolding items_of
items-greatest parts unit f =
    ap (max (f (unit_item unit)))
    (greatest_by-append f (map (λ (n : Neighbour). unit_item n.unit) (neighbours_of parts unit)) (map row_item (touched_rows parts unit))
    ∙ ap (λ m. max m (greatest_by f (map row_item (touched_rows parts unit)))) (greatest_by-map f (λ (n : Neighbour). unit_item n.unit) (neighbours_of parts unit))
    ∙ ap (max (greatest_by (λ (n : Neighbour). f (unit_item n.unit)) (neighbours_of parts unit))) (greatest_by-map f row_item (touched_rows parts unit)))

touches-greatest : (parts : Parts) (unit : ℕ) (rows : List ℕ) → greatest_by (λ (touch : Touch). slice_index rows touch.row) (touches_of parts unit) ≡ greatest_by (slice_index rows) (touched_rows parts unit)
unfolding touches_of
touches-greatest parts unit rows = greatest_by-map (λ (touch : Touch). slice_index rows touch.row) (λ row. as_touch row (amount_for parts row unit)) (touched_rows parts unit)

-- the greatest version of a unit's items
pub around-is : (k : KeptState) (units rows : List ℕ) (last unit : ℕ) → IsValid k.setting.parts → AreVersions k units rows last → unit < unit_count k.setting.parts
    → version_around k.setting.parts units rows unit ≡ reach_of (λ p. changes_around k.setting.parts unit (slice_index_or k.journal p no_entry)) (length k.journal)
around-is k units rows last unit valid are within =
    let parts = k.setting.parts in let v = version_of parts k.journal in
    let of_unit : (u : ℕ) → u < unit_count parts → slice_index units u ≡ v (unit_item u) = λ u h. ap (λ vs. get_or vs u 0) are.units_are ∙ get_or-list_below (unit_count parts) u (λ (n : ℕ). v (unit_item n)) 0 h in
    let of_row : (r : ℕ) → r < target_count parts → slice_index rows r ≡ v (row_item r) = λ r h. ap (λ vs. get_or vs r 0) are.rows_are ∙ get_or-list_below (target_count parts) r (λ (n : ℕ). v (row_item n)) 0 h in
    let near : greatest_by (λ (n : Neighbour). slice_index units n.unit) (neighbours_of parts unit) ≡ greatest_by (λ (n : Neighbour). v (unit_item n.unit)) (neighbours_of parts unit) =
    greatest_by-same (λ (n : Neighbour). slice_index units n.unit) (λ (n : Neighbour). v (unit_item n.unit)) (neighbours_of parts unit) (λ i d h. of_unit _ (neighbours_of-in_range parts unit valid i d h)) in
    let held : greatest_by (slice_index rows) (touched_rows parts unit) ≡ greatest_by (λ r. v (row_item r)) (touched_rows parts unit) =
    greatest_by-same (slice_index rows) (λ r. v (row_item r)) (touched_rows parts unit) (λ i d h. of_row _ (touched_rows-in_range parts unit i d h)) in
    ap (λ n. max n (max (greatest_by (λ (n : Neighbour). slice_index units n.unit) (neighbours_of parts unit)) (greatest_by (λ (touch : Touch). slice_index rows touch.row) (touches_of parts unit)))) (of_unit unit within)
    ∙ ap (λ m. max (v (unit_item unit)) (max m (greatest_by (λ (touch : Touch). slice_index rows touch.row) (touches_of parts unit)))) near
    ∙ ap (λ m. max (v (unit_item unit)) (max (greatest_by (λ (n : Neighbour). v (unit_item n.unit)) (neighbours_of parts unit)) m)) (touches-greatest parts unit rows ∙ held)
    ∙ sym (items-greatest parts unit v)
    ∙ sym (reach-any (λ p item. changes parts (slice_index_or k.journal p no_entry) item) (items_of parts unit) (length k.journal))

-- the entry that overtakes a reading, by the versions of its unit's items
pub touched-some : (k : KeptState) (units rows : List ℕ) (last front unit : ℕ) → IsValid k.setting.parts → AreVersions k units rows last → unit < unit_count k.setting.parts
    → position_past front (version_around k.setting.parts units rows unit) ≡ overtaking_entry k.setting.parts k.journal front unit
touched-some k units rows last front unit valid are within =
    ap (position_past front) (around-is k units rows last unit valid are within) ∙ last-past front (λ p. changes_around k.setting.parts unit (slice_index_or k.journal p no_entry)) (length k.journal)

-- no entry overtakes where none was accepted at the front or later
pub touched-none : (k : KeptState) (units rows : List ℕ) (last front unit : ℕ) → AreVersions k units rows last → last ≤ front → None ≡ overtaking_entry k.setting.parts k.journal front unit
touched-none k units rows last front unit are early =
    let around = λ (p : ℕ). changes_around k.setting.parts unit (slice_index_or k.journal p no_entry) in
    let less = reach-mono around (λ p. (slice_index_or k.journal p no_entry).accepted) (length k.journal) (λ p h. around-accepted_only k.setting.parts unit (slice_index_or k.journal p no_entry) h) in
    sym (past-false front (reach_of around (length k.journal)) (omega (arith, less, are.last_is))) ∙ last-past front around (length k.journal)
