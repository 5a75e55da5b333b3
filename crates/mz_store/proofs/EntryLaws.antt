-- The entry of a judged move: what it is, what it writes, and that it may be appended.
use Rattle.std.proofs.Common.{◌≡◌, ℕ, ◌+◌, ◌<◌, ◌^◌, Bool, true, false, cond, not, List, [], ◌∷◌, ◌++◌, get_or, map, refl, sym, ap, ◌∙◌, subst, arith, inl, inr}
use Rattle.std.specs.Prelude.{◌&&◌, ◌==◌, if◌then◌else◌, nat_le, nat_lt, slice_index}
use Rattle.std.specs.List.{All, filter}
use Rattle.std.proofs.lemmas.Bool.{cases_Bool, le-leb, lt-ltb}
use Rattle.std.proofs.lemmas.Bool.Decides.{nat_tests}
use Rattle.std.proofs.lemmas.List.Elements.{All-cons, All-filter, All-map, All-nil}
use Rattle.mz_model.specs.declared.parts.Parts.{Parts}
use Rattle.mz_model.specs.Items.{Item, row_item, unit_item}
use Rattle.mz_model.specs.Move.{moved_plan}
use Rattle.mz_model.specs.Parts.{target_count, unit_count, zone_count}
use Rattle.mz_model.specs.Targets.{gain_of, held_of, touched_rows}
use Rattle.mz_model.specs.Valid.{IsValid}
use Rattle.mz_model.specs.Zones.{is_allowed}
use Rattle.mz_model.proofs.ScoreLaws.{plan-in_range}
use Rattle.mz_model.proofs.TargetLaws.{held_of-le}
use Rattle.mz_model.proofs.TouchLaws.{touched_rows-in_range}
use Rattle.mz_model.proofs.ZoneLaws.{is_allowed-in_range, step_of-allowed}
use Rattle.mz_delta.specs.declared.judged.Judged.{Judged}
use Rattle.mz_delta.proofs.MoveLaws.{moved-own}
use Rattle.mz_history.specs.declared.entry.Entry.{Entry}
use Rattle.mz_history.specs.Core.{entry_of_seat, next_draw}
use Rattle.mz_history.specs.Entry.{drawn_zone}
use Rattle.mz_history.specs.Items.{changes, value_of_item}
use Rattle.mz_history.specs.Moves.{IsMove}
use Rattle.mz_history.specs.Replay.{IsLegalHistory, plan_of_history, Setting}
use Rattle.mz_history.proofs.HistoryLaws.{legal-push, plan-push}
use Rattle.mz_history.proofs.LegalHistoryLaws.{after-accepted, last_plan-legal}
use Rattle.mz_state.specs.Kept.{IsKept, KeptState}
use Rattle.mz_state.specs.NextMove.{IsNextMove}
use Rattle.mz_store.specs.Told.{changed_items, writes_of}
use Rattle.mz_store.specs.Turns.{move_writes, row_writes}
use Rattle.mz_store.specs.Words.{IsItem, may_have, word_of_item}
use Rattle.mz_store.proofs.ChangeLaws.{row-writes-are}
use Rattle.mz_store.proofs.WordLaws.{accepted-writes, refused-writes}

-- ---- the entry

-- the next entry of a seat is a move of the problem
pub entry-move : (k : KeptState) (seat : ℕ) → IsKept k → (next_draw k.setting.parts k.setting.seed k.setting.run k.journal seat).unit < unit_count k.setting.parts → IsMove k.setting.parts (entry_of_seat k.setting k.journal seat)
entry-move k seat kept within =
    let draw = next_draw k.setting.parts k.setting.seed k.setting.run k.journal seat in
    let allowed = (last_plan-legal k.setting k.journal kept.valid kept.journal.history).allowed draw.unit within in record {
      unit = within;
      old = allowed;
      new = (step_of-allowed k.setting.parts draw.unit (slice_index (plan_of_history k.setting k.journal) draw.unit) draw.shift kept.valid within allowed).allowed;
    }

pub entry-legal : (k : KeptState) (seat : ℕ) → IsKept k → IsLegalHistory k.setting (k.journal ++ entry_of_seat k.setting k.journal seat ∷ [])
entry-legal k seat kept = legal-push k.setting k.journal seat (entry_of_seat k.setting k.journal seat) kept.journal.history refl

-- both zones of a judged move are zones of the problem
pub judged-zones : (k : KeptState) (judged : Judged) → IsKept k → IsNextMove k judged → judged.unit < unit_count k.setting.parts → (judged.old < zone_count k.setting.parts) × (judged.new < zone_count k.setting.parts)
judged-zones k judged kept next within =
    let move = entry-move k judged.seat kept (subst (λ u. u < unit_count k.setting.parts) next.unit within) in (
      subst (λ z. z < zone_count k.setting.parts) (sym next.old) (is_allowed-in_range k.setting.parts _ _ kept.valid move.unit move.old),
      subst (λ z. z < zone_count k.setting.parts) (sym next.new) (is_allowed-in_range k.setting.parts _ _ kept.valid move.unit move.new),
    )

-- ---- values that words may have

value-fits : (s : Setting) (history : List Entry) (item : Item) → IsValid s.parts → IsLegalHistory s history → IsItem s.parts item → may_have s.parts (word_of_item s.parts item) (value_of_item s history item) ≡ true
value-fits s history (unit_item unit) valid legal within =
    ap (λ b. if b then is_allowed s.parts unit (slice_index (plan_of_history s history) unit) else nat_le (slice_index (plan_of_history s history) unit) (10 ^ 18)) (lt-ltb unit (unit_count s.parts) within)
    ∙ (last_plan-legal s history valid legal).allowed unit within
value-fits s history (row_item row) valid legal within =
    let plan = plan_of_history s history in let plan_legal = last_plan-legal s history valid legal in
    let held = held_of s.parts plan row in
    let past : nat_lt (unit_count s.parts + row) (unit_count s.parts) ≡ false = grind (arith, nat_tests) in
    ap (λ b. if b then is_allowed s.parts (unit_count s.parts + row) held else nat_le held (10 ^ 18)) past
    ∙ le-leb held (10 ^ 18) (held_of-le s.parts plan row valid within (λ unit h. plan-in_range s.parts plan unit valid plan_legal h))

word-within : (parts : Parts) (item : Item) → IsItem parts item → word_of_item parts item < unit_count parts + target_count parts
word-within parts (unit_item unit) within = omega (arith, within)
word-within parts (row_item row) within = omega (arith, within)

changed-inside : (parts : Parts) (entry : Entry) → IsMove parts entry → All (IsItem parts) (changed_items parts entry)
changed-inside parts entry move =
    elim entry.accepted as (λ b. All (IsItem parts) (cond b (unit_item entry.unit ∷ map row_item (filter (λ row. changes parts entry (row_item row)) (touched_rows parts entry.unit))) [])) [
      | true ↦ All-cons (IsItem parts) (unit_item entry.unit) _ move.unit
          (All-map (IsItem parts) row_item (filter (λ row. changes parts entry (row_item row)) (touched_rows parts entry.unit))
          (All-filter (λ row. changes parts entry (row_item row)) (λ row. row < target_count parts) (touched_rows parts entry.unit) (touched_rows-in_range parts entry.unit)))
      | false ↦ All-nil (IsItem parts)
    ]

-- an entry writes words of the board, with values that they may have
pub writes-fit : (s : Setting) (history : List Entry) (entry : Entry) (words : ℕ) → IsValid s.parts → IsLegalHistory s (history ++ entry ∷ []) → IsMove s.parts entry → words ≡ unit_count s.parts + target_count s.parts
    → All (λ (w : ℕ × ℕ). (w.0 < words) × (may_have s.parts w.0 w.1 ≡ true)) (writes_of s history entry)
writes-fit s history entry words valid legal move count =
    All-map (λ (w : ℕ × ℕ). (w.0 < words) × (may_have s.parts w.0 w.1 ≡ true)) (λ (item : Item). (word_of_item s.parts item, value_of_item s (history ++ entry ∷ []) item)) (changed_items s.parts entry)
    (λ k d h. let inside = changed-inside s.parts entry move k d h in (
      omega (arith, word-within s.parts (get_or (changed_items s.parts entry) k d) inside, count),
      value-fits s (history ++ entry ∷ []) (get_or (changed_items s.parts entry) k d) valid legal inside,
    ))

-- ---- what is owed

row-changes : (parts : Parts) (entry : Entry) (row : ℕ) → entry.accepted ≡ true → changes parts entry (row_item row) ≡ not (gain_of parts row entry.unit entry.old == gain_of parts row entry.unit entry.new)
row-changes parts entry row taken = ap (λ b. b && not (gain_of parts row entry.unit entry.old == gain_of parts row entry.unit entry.new)) taken

two-parts : (a b : ℕ × ℕ) (xs ys : List (ℕ × ℕ)) → a ≡ b → xs ≡ ys → a ∷ xs ≡ b ∷ ys
two-parts a b xs ys first rest = λ i. first i ∷ rest i

-- the row and the total that a word's write has
abbrev row_write : Parts → List ℕ → ℕ → ℕ × ℕ
row_write parts plan row = (unit_count parts + row, held_of parts plan row)

taken-writes : (k : KeptState) (judged : Judged) (entry : Entry) (after rows : List ℕ) → IsKept k → IsNextMove k judged → judged.unit < unit_count k.setting.parts → entry.accepted ≡ true
    → entry.unit ≡ judged.unit → entry.old ≡ judged.old → entry.new ≡ judged.new → plan_of_history k.setting (k.journal ++ entry ∷ []) ≡ after → slice_index after judged.unit ≡ judged.new
    → judged.totals.items ≡ map (held_of k.setting.parts after) rows → touched_rows k.setting.parts judged.unit ≡ rows
    → writes_of k.setting k.journal entry ≡ move_writes k.setting.parts judged true
taken-writes k judged entry after rows kept next within taken unit old new plan_is zone totals rows_are =
    let parts = k.setting.parts in
    let p : ℕ → Bool = λ row. changes parts entry (row_item row) in
    let same : (row : ℕ) → p row ≡ not (gain_of parts row judged.unit judged.old == gain_of parts row judged.unit judged.new) =
    λ row. row-changes parts entry row taken ∙ ap (λ u. not (gain_of parts row u entry.old == gain_of parts row u entry.new)) unit ∙ ap (λ z. not (gain_of parts row judged.unit z == gain_of parts row judged.unit entry.new)) old
    ∙ ap (λ z. not (gain_of parts row judged.unit judged.old == gain_of parts row judged.unit z)) new in
    let owed : row_writes parts judged.unit judged.old judged.new (touched_rows parts judged.unit) judged.totals.items ≡ map (row_write parts after) (filter p rows) =
    ap (λ (rs : List ℕ). row_writes parts judged.unit judged.old judged.new rs judged.totals.items) rows_are
    ∙ ap (λ (ts : List ℕ). row_writes parts judged.unit judged.old judged.new rows ts) totals ∙ row-writes-are parts judged.unit judged.old judged.new p (held_of parts after) rows same in
    let later : map (row_write parts (plan_of_history k.setting (k.journal ++ entry ∷ []))) (filter p (touched_rows parts entry.unit)) ≡ map (row_write parts after) (filter p rows) =
    ap (λ (q : List ℕ). map (row_write parts q) (filter p (touched_rows parts entry.unit))) plan_is ∙ ap (λ (rs : List ℕ). map (row_write parts after) (filter p rs)) (ap (touched_rows parts) unit ∙ rows_are) in
    let first : (entry.unit, slice_index (plan_of_history k.setting (k.journal ++ entry ∷ [])) entry.unit) ≡ (judged.unit, judged.new) =
    ap (λ (q : List ℕ). (entry.unit, slice_index q entry.unit)) plan_is ∙ ap (λ (u : ℕ). (u, slice_index after u)) unit ∙ ap (λ (z : ℕ). (judged.unit, z)) zone in
    accepted-writes k.setting k.journal entry taken ∙ two-parts _ _ _ _ first (later ∙ sym owed)

move-taken : (k : KeptState) (judged : Judged) (entry : Entry) → IsKept k → IsNextMove k judged → judged.unit < unit_count k.setting.parts → entry ≡ entry_of_seat k.setting k.journal judged.seat → entry.accepted ≡ true
    → writes_of k.setting k.journal entry ≡ move_writes k.setting.parts judged true
move-taken k judged entry kept next within is taken =
    let parts = k.setting.parts in let plan = plan_of_history k.setting k.journal in
    let unit : entry.unit ≡ judged.unit = ap (λ (e : Entry). e.unit) is ∙ sym next.unit in
    let new : entry.new ≡ judged.new = ap (λ (e : Entry). e.new) is ∙ sym next.new in
    let draw = next_draw parts k.setting.seed k.setting.run k.journal judged.seat in
    let whole = (last_plan-legal k.setting k.journal kept.valid kept.journal.history).whole in
    taken-writes k judged entry (moved_plan plan judged.unit judged.new) (touched_rows parts judged.unit) kept next within taken unit (ap (λ (e : Entry). e.old) is ∙ sym next.old) new
    (plan-push k.setting k.journal entry ∙ after-accepted plan entry taken ∙ ap (λ u. moved_plan plan u entry.new) unit ∙ ap (λ z. moved_plan plan judged.unit z) new)
    (moved-own plan judged.unit judged.new (omega (arith, whole, within)))
    (next.difference.totals ∙ ap (λ u. map (held_of parts (moved_plan plan u (drawn_zone parts plan draw))) (touched_rows parts judged.unit)) (sym next.unit)
    ∙ ap (λ z. map (held_of parts (moved_plan plan judged.unit z)) (touched_rows parts judged.unit)) (sym next.new)) refl

-- what the entry of a judged move writes
pub entry-writes : (k : KeptState) (judged : Judged) (entry : Entry) → IsKept k → IsNextMove k judged → judged.unit < unit_count k.setting.parts → entry ≡ entry_of_seat k.setting k.journal judged.seat
    → writes_of k.setting k.journal entry ≡ move_writes k.setting.parts judged entry.accepted
entry-writes k judged entry kept next within is = elim (cases_Bool entry.accepted) [
  | inl taken ↦ move-taken k judged entry kept next within is taken ∙ ap (move_writes k.setting.parts judged) (sym taken)
  | inr refused ↦ refused-writes k.setting k.journal entry refused ∙ ap (move_writes k.setting.parts judged) (sym refused)
]
