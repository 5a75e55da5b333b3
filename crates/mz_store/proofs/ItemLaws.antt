-- Items: what entries change, and the value that an item keeps.
use Rattle.std.proofs.Common.{◌≡◌, ℕ, ◌<◌, true, false, List, [], ◌∷◌, ◌++◌, sym, ap, ◌∙◌, arith, inl, inr, get_or-set_other}
use Rattle.std.specs.Prelude.{◌&&◌, ◌==◌, not, slice_index}
use Rattle.std.specs.List.{Contains}
use Rattle.std.proofs.Math.Seq.{set_out}
use Rattle.std.proofs.lemmas.Bool.{cases_Bool, cases_eq, eq-eqb, false≢true, ne_eqb}
use Rattle.std.proofs.lemmas.Bool.Decides.{leb_tells}
use Rattle.mz_num.proofs.PlaceLaws.{places_below-has}
use Rattle.mz_model.specs.declared.parts.Parts.{Parts}
use Rattle.mz_model.specs.Items.{Item, row_item, unit_item}
use Rattle.mz_model.specs.Move.{moved_plan}
use Rattle.mz_model.specs.Parts.{target_count, unit_count}
use Rattle.mz_model.specs.Plans.{IsLegalPlan}
use Rattle.mz_model.specs.Targets.{gain_of, is_touched, touched_rows}
use Rattle.mz_model.specs.Valid.{IsValid}
use Rattle.mz_model.proofs.ZoneLaws.{is_allowed-in_range}
use Rattle.mz_delta.proofs.MoveLaws.{held-moved}
use Rattle.mz_delta.proofs.RowLaws.{gain_of-not_touched}
use Rattle.mz_history.specs.declared.entry.Entry.{Entry}
use Rattle.mz_history.specs.Items.{changes, value_in_plan, value_of_item}
use Rattle.mz_history.specs.Moves.{IsMove}
use Rattle.mz_history.specs.Replay.{plan_of_history, Setting}
use Rattle.mz_history.proofs.HistoryLaws.{plan-push}
use Rattle.mz_history.proofs.LegalHistoryLaws.{after-accepted, after-refused, IsLegalStep, last_plan-legal}

same-gain : (a b : ℕ) → not (a == b) ≡ false → a ≡ b
same-gain a b same = elim (cases_eq a b) [ inl e ↦ e | inr other ↦ absurd (false≢true (sym same ∙ ap not (ne_eqb a b other))) ]

moved-keeps : (parts : Parts) (plan : List ℕ) (entry : Entry) (item : Item) → IsLegalPlan parts plan → entry.unit < unit_count parts → entry.old ≡ slice_index plan entry.unit → entry.accepted ≡ true → changes parts entry item ≡ false
    → value_in_plan parts (moved_plan plan entry.unit entry.new) item ≡ value_in_plan parts plan item
moved-keeps parts plan entry (unit_item unit) legal within from taken stays =
    get_or-set_other plan entry.unit unit entry.new 0 (λ e. false≢true (sym stays ∙ ap (λ b. b && entry.unit == unit) taken ∙ eq-eqb entry.unit unit (sym e)))
moved-keeps parts plan entry (row_item row) legal within from taken stays =
    let gains : gain_of parts row entry.unit entry.old ≡ gain_of parts row entry.unit entry.new = same-gain (gain_of parts row entry.unit entry.old) (gain_of parts row entry.unit entry.new) (sym (ap (λ b. b && not (gain_of parts row entry.unit entry.old == gain_of parts row entry.unit entry.new)) taken) ∙ stays) in
    let held = held-moved parts plan entry.unit entry.new row legal within in
    omega (arith, held, gains, ap (gain_of parts row entry.unit) from)

-- the value of an item that the next entry doesn't change stays
pub step-keeps : (s : Setting) (before : List Entry) (entry : Entry) (item : Item) → IsValid s.parts → IsLegalStep s before entry → changes s.parts entry item ≡ false → value_of_item s (before ++ entry ∷ []) item ≡ value_of_item s before item
step-keeps s before entry item valid step stays =
    let plan = plan_of_history s before in
    let legal : IsLegalPlan s.parts plan = last_plan-legal s before valid step.legal in
    let from : entry.old ≡ slice_index plan entry.unit = ap (λ (e : Entry). e.old) step.next ∙ ap (λ (u : ℕ). slice_index plan u) (sym (ap (λ (e : Entry). e.unit) step.next)) in
    ap (λ (p : List ℕ). value_in_plan s.parts p item) (plan-push s before entry) ∙
    elim (cases_Bool entry.accepted) [
      | inl taken ↦ ap (λ (p : List ℕ). value_in_plan s.parts p item) (after-accepted plan entry taken) ∙ elim (leb_tells (unit_count s.parts) entry.unit) [
        | inl past ↦ ap (λ (p : List ℕ). value_in_plan s.parts p item) (set_out plan entry.unit entry.new (omega (arith, legal.whole, past.1)))
        | inr within ↦ moved-keeps s.parts plan entry item legal within.1 from taken stays
      ]
      | inr refused ↦ ap (λ (p : List ℕ). value_in_plan s.parts p item) (after-refused plan entry refused)
    ]

-- what a changed item says of its entry
pub changed-accepted : (parts : Parts) (entry : Entry) (item : Item) → changes parts entry item ≡ true → entry.accepted ≡ true
changed-accepted parts entry (unit_item unit) change = elim (cases_Bool entry.accepted) [
  | inl taken ↦ taken
  | inr refused ↦ absurd (false≢true (sym (ap (λ b. b && entry.unit == unit) refused) ∙ change))
]
changed-accepted parts entry (row_item row) change = elim (cases_Bool entry.accepted) [
  | inl taken ↦ taken
  | inr refused ↦ absurd (false≢true (sym (ap (λ b. b && not (gain_of parts row entry.unit entry.old == gain_of parts row entry.unit entry.new)) refused) ∙ change))
]

pub changed-unit : (parts : Parts) (entry : Entry) (unit : ℕ) → changes parts entry (unit_item unit) ≡ true → entry.unit ≡ unit
changed-unit parts entry unit change = elim (cases_eq entry.unit unit) [
  | inl e ↦ e
  | inr other ↦ absurd (false≢true (sym (ap (λ b. b && entry.unit == unit) (changed-accepted parts entry (unit_item unit) change) ∙ ne_eqb entry.unit unit other) ∙ change))
]

-- an entry changes only target rows that its unit touches
pub changed-touched : (parts : Parts) (entry : Entry) (row : ℕ) → IsValid parts → IsMove parts entry → row < target_count parts → changes parts entry (row_item row) ≡ true → Contains (touched_rows parts entry.unit) row
unfolding touched_rows
changed-touched parts entry row valid move within change = elim (cases_Bool (is_touched parts entry.unit row)) [
  | inl touches ↦ places_below-has (target_count parts) row (is_touched parts entry.unit) within touches
  | inr misses ↦
      let old = gain_of-not_touched parts entry.unit row entry.old (is_allowed-in_range parts entry.unit entry.old valid move.unit move.old) misses in
      let new = gain_of-not_touched parts entry.unit row entry.new (is_allowed-in_range parts entry.unit entry.new valid move.unit move.new) misses in
      absurd (false≢true (sym (
      ap (λ b. b && not (gain_of parts row entry.unit entry.old == gain_of parts row entry.unit entry.new)) (changed-accepted parts entry (row_item row) change)
      ∙ ap not (eq-eqb (gain_of parts row entry.unit entry.old) (gain_of parts row entry.unit entry.new) (old ∙ sym new))) ∙ change))
]
