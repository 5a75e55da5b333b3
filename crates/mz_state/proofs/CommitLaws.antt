-- What a commit rests on: a reading that nothing overtook is judged as the last plan would be.
use Rattle.std.proofs.Common.{◌≡◌, ℕ, zero, suc, ◌+◌, ◌-◌, ◌<◌, ◌≤◌, Bool, true, false, List, [], ◌∷◌, ◌++◌, length, get_or, take, drop, map, None, refl, sym, ap, subst, ◌∙◌, arith, inl, inr, get_or-set_other}
use Rattle.std.specs.Prelude.{◌&&◌, ◌||◌, ◌==◌, not, slice_index, slice_index_or}
use Rattle.std.specs.List.{All, list_any}
use Rattle.std.proofs.Math.Seq.{set_out, take-length}
use Rattle.std.proofs.lemmas.Bool.{cases_Bool, cases_eq, eq-eqb, false≢true, ne_eqb}
use Rattle.std.proofs.lemmas.Bool.Decides.{leb_tells}
use Rattle.std.proofs.lemmas.List.{get_or-drop, get_or-take, get_or_default, length-drop, length-take, take_more}
use Rattle.std.proofs.lemmas.List.Folds.{list_any_none}
use Rattle.std.proofs.lemmas.Option.{none-some}
use Rattle.mz_draw.specs.declared.draw.Draw.{Draw}
use Rattle.mz_model.specs.declared.parts.Parts.{Parts}
use Rattle.mz_model.specs.Items.{Item, items_of, row_item, unit_item}
use Rattle.mz_model.specs.Move.{moved_plan}
use Rattle.mz_model.specs.Parts.{unit_count}
use Rattle.mz_model.specs.Plans.{IsLegalPlan}
use Rattle.mz_model.specs.Targets.{gain_of}
use Rattle.mz_model.specs.Valid.{IsValid}
use Rattle.mz_model.specs.Zones.{step_of}
use Rattle.mz_delta.specs.declared.judged.Judged.{Judged}
use Rattle.mz_delta.specs.declared.reading.Reading.{Reading}
use Rattle.mz_delta.specs.Judged.{IsDifference, IsRight}
use Rattle.mz_delta.specs.Reading.{Agrees, IsWellFormed}
use Rattle.mz_delta.proofs.MoveLaws.{held-moved}
use Rattle.mz_history.specs.declared.entry.Entry.{Entry}
use Rattle.mz_history.specs.Core.{next_draw}
use Rattle.mz_history.specs.Entry.{drawn_zone}
use Rattle.mz_history.specs.Items.{changes, changes_around, value_in_plan, value_of_item}
use Rattle.mz_history.specs.Replay.{IsLegalHistory, plan_of_history, Setting}
use Rattle.mz_history.specs.Verdict.{no_entry, overtaking_entry}
use Rattle.mz_history.proofs.HistoryLaws.{plan-push}
use Rattle.mz_history.proofs.LegalHistoryLaws.{after-accepted, after-refused, IsLegalStep, last_plan-legal, legal-at}
use Rattle.mz_state.specs.Kept.{KeptState}
use Rattle.mz_state.specs.Looks.{IsLook, IsRightFor}
use Rattle.mz_state.specs.NextMove.{IsMoveOf, IsNextMove}
use Rattle.mz_state.specs.Versions.{reach_of}
use Rattle.mz_state.proofs.ReachLaws.{last-past, past-true, reach-past}
use Rattle.mz_state.proofs.ReadingLaws.{agreeing-values, right-agrees, values-agree}

-- ---- an item that an entry doesn't change

same-gain : (a b : ℕ) → not (a == b) ≡ false → a ≡ b
same-gain a b same = elim (cases_eq a b) [ inl e ↦ e | inr other ↦ absurd (false≢true (sym same ∙ ap not (ne_eqb a b other))) ]

moved-keeps : (parts : Parts) (plan : List ℕ) (entry : Entry) (item : Item) → IsLegalPlan parts plan → entry.unit < unit_count parts → entry.old ≡ slice_index plan entry.unit → entry.accepted ≡ true → changes parts entry item ≡ false
    → value_in_plan parts (moved_plan plan entry.unit entry.new) item ≡ value_in_plan parts plan item
moved-keeps parts plan entry (unit_item unit) legal within from taken stays =
    get_or-set_other plan entry.unit unit entry.new 0 (λ e. false≢true (sym stays ∙ ap (λ b. b && entry.unit == unit) taken ∙ eq-eqb entry.unit unit (sym e)))
moved-keeps parts plan entry (row_item row) legal within from taken stays =
    let gains : gain_of parts row entry.unit entry.old ≡ gain_of parts row entry.unit entry.new = same-gain (gain_of parts row entry.unit entry.old) (gain_of parts row entry.unit entry.new) (sym (ap (λ b. b && not (gain_of parts row entry.unit entry.old == gain_of parts row entry.unit entry.new)) taken) ∙ stays) in
    let held = held-moved parts plan entry.unit entry.new row legal within in
    omega (arith, held, gains, ap (gain_of parts row entry.unit) from)

-- the value of an item that the next entry doesn't change stays
step-keeps : (s : Setting) (before : List Entry) (entry : Entry) (item : Item) → IsValid s.parts → IsLegalStep s before entry → changes s.parts entry item ≡ false → value_of_item s (before ++ entry ∷ []) item ≡ value_of_item s before item
step-keeps s before entry item valid step stays =
    let plan = plan_of_history s before in
    let legal : IsLegalPlan s.parts plan = last_plan-legal s before valid step.legal in
    let from : entry.old ≡ slice_index plan entry.unit = ap (λ (e : Entry). e.old) step.next ∙ ap (λ (u : ℕ). slice_index plan u) (sym (ap (λ (e : Entry). e.unit) step.next)) in
    ap (λ (p : List ℕ). value_in_plan s.parts p item) (plan-push s before entry) ∙
    elim (cases_Bool entry.accepted) [
      | inl taken ↦ ap (λ (p : List ℕ). value_in_plan s.parts p item) (after-accepted plan entry taken) ∙ elim (leb_tells (unit_count s.parts) entry.unit) [
        | inl past ↦ ap (λ (p : List ℕ). value_in_plan s.parts p item) (set_out plan entry.unit entry.new (omega (arith, legal.whole, past.1)))
        | inr within ↦ moved-keeps s.parts plan entry item legal within.1 from taken stays
      ]
      | inr refused ↦ ap (λ (p : List ℕ). value_in_plan s.parts p item) (after-refused plan entry refused)
    ]

-- an item that no entry behind a beginning changes has its value of there
later-keeps : (s : Setting) (history : List Entry) (item : Item) (n m : ℕ) → IsValid s.parts → IsLegalHistory s history → n + m ≤ length history → ((p : ℕ) → n ≤ p → p < length history → changes s.parts (get_or history p no_entry) item ≡ false)
    → value_of_item s (take (n + m) history) item ≡ value_of_item s (take n history) item
later-keeps s history item n zero valid legal few still = let same : n + 0 ≡ n = omega arith in ap (λ k. value_of_item s (take k history) item) same
later-keeps s history item n (suc m) valid legal few still =
    let next : n + suc m ≡ (n + m) + 1 = omega arith in
    let within : n + m < length history = omega arith in
    ap (λ k. value_of_item s (take k history) item) next ∙ ap (λ es. value_of_item s es item) (take_more history (n + m) no_entry within)
    ∙ step-keeps s (take (n + m) history) (get_or history (n + m) no_entry) item valid (legal-at s history (n + m) no_entry legal within) (still (n + m) (omega arith) within)
    ∙ later-keeps s history item n m valid legal (omega arith) still

-- ---- what nothing overtook

none-around : (parts : Parts) (history : List Entry) (front unit p : ℕ) → overtaking_entry parts history front unit ≡ None → front ≤ p → p < length history → changes_around parts unit (slice_index_or history p no_entry) ≡ false
none-around parts history front unit p none from within =
    let around = λ (k : ℕ). changes_around parts unit (slice_index_or history k no_entry) in
    let past = last-past front around (length history) in
    elim (leb_tells (reach_of around (length history)) front) [
      | inl short ↦ reach-past around (length history) p (omega (arith, short.1)) within
      | inr reaches ↦ absurd (none-some _ (sym none ∙ sym past ∙ past-true front (reach_of around (length history)) reaches.1))
    ]

first : (a b : Bool) → (a || b) ≡ false → a ≡ false
first true b h = absurd (false≢true (sym h))
first false b h = refl

second : (a b : Bool) → (a || b) ≡ false → b ≡ false
second true b h = absurd (false≢true (sym h))
second false b h = h

any-none : {X : Type 0} (p : X → Bool) (xs : List X) → list_any p xs ≡ false → All (λ x. p x ≡ false) xs
any-none p [] none k d h = absurd (omega arith)
any-none p (x ∷ xs) none zero d h = first (p x) (list_any p xs) none
any-none p (x ∷ xs) none (suc k) d h = any-none p xs (second (p x) (list_any p xs) none) k d (omega arith)

map-same : (f g : Item → ℕ) (xs : List Item) → All (λ x. f x ≡ g x) xs → map f xs ≡ map g xs
map-same f g [] same = refl
map-same f g (x ∷ xs) same = ap (λ (n : ℕ). n ∷ map f xs) (same 0 x (omega arith)) ∙ ap (λ (ns : List ℕ). g x ∷ ns) (map-same f g xs (λ k d h. same (suc k) d (omega arith)))

-- a reading that is right for a beginning of a legal history, and that nothing in the whole history overtook, agrees
-- with the history's plan
pub untouched-agrees : (s : Setting) (history : List Entry) (n : ℕ) (reading : Reading) → IsValid s.parts → IsLegalHistory s history → n ≤ length history → IsWellFormed s.parts reading → IsRightFor s (take n history) reading
    → overtaking_entry s.parts history reading.front reading.unit ≡ None → Agrees s.parts (plan_of_history s history) reading
untouched-agrees s history n reading valid legal few formed right none =
    let items = items_of s.parts reading.unit in let early = take n history in let m = length history - n in
    let whole : n + m ≡ length history = omega (arith, few) in
    let still : (p : ℕ) → reading.front ≤ p → p < length history → All (λ item. changes s.parts (get_or history p no_entry) item ≡ false) items =
    λ p from within. any-none (changes s.parts (get_or history p no_entry)) items (none-around s.parts history reading.front reading.unit p none from within) in
    let count = length-take n history in let seen = right.seen in
    let then_agrees : Agrees s.parts (plan_of_history s early) reading =
    right-agrees s early reading formed right (λ i d h. list_any_none (λ entry. changes s.parts entry (get_or items i d)) (drop reading.front early)
    (λ k e g. let left = length-drop reading.front early in
    let here : reading.front + k < length early = omega (arith, left, g) in
    let inside : reading.front + k < length history = omega (arith, count) in
    subst (λ (entry : Entry). changes s.parts entry (get_or items i d) ≡ false)
    (sym (get_or-drop reading.front early k e ∙ get_or-take n history (reading.front + k) e (omega (arith, count)) ∙ get_or_default history (reading.front + k) e no_entry inside))
    (still (reading.front + k) (omega arith) inside i d h))) in
    let values : map (value_of_item s history) items ≡ map (value_of_item s early) items = map-same (value_of_item s history) (value_of_item s early) items
    (λ i d h. ap (λ (es : List Entry). value_of_item s es (get_or items i d)) (sym (ap (λ k. take k history) whole ∙ take-length history))
    ∙ later-keeps s history (get_or items i d) n m valid legal (omega (arith, whole)) (λ p from within. still p (omega (arith, count)) within i d h)) in
    values-agree s.parts (plan_of_history s history) reading formed (agreeing-values s.parts (plan_of_history s early) reading then_agrees ∙ sym values)

-- what was judged for a draw, by a reading with which a legal plan agrees, is the draw's move on the plan
pub agreeing-moves : (parts : Parts) (plan : List ℕ) (reading : Reading) (draw : Draw) (judged : Judged) → IsLegalPlan parts plan
    → Agrees parts plan reading → IsRight parts reading draw judged → IsMoveOf parts plan draw judged
agreeing-moves parts plan reading draw judged legal agrees judges =
    let zone : reading.zone ≡ slice_index plan draw.unit = agrees.unit ∙ ap (λ (u : ℕ). slice_index plan u) (sym judges.drawn) in
    let target : step_of parts draw.unit reading.zone draw.shift ≡ drawn_zone parts plan draw = ap (λ (z : ℕ). step_of parts draw.unit z draw.shift) zone in
    let one = judges.move.difference plan legal agrees in
    let two : IsDifference parts plan (moved_plan plan draw.unit (step_of parts draw.unit reading.zone draw.shift)) judged =
    subst (λ (u : ℕ). IsDifference parts plan (moved_plan plan u (step_of parts draw.unit reading.zone draw.shift)) judged) (sym judges.drawn) one in record {
      number = judges.move.number;
      unit = judges.move.unit ∙ sym judges.drawn;
      word = judges.move.word;
      old = judges.move.old ∙ zone;
      new = judges.move.new ∙ target;
      difference = subst (λ (z : ℕ). IsDifference parts plan (moved_plan plan draw.unit z) judged) target two;
    }

-- and what was judged by it for a draw is the draw's move on the history's plan
pub commit-moves : (s : Setting) (history : List Entry) (n : ℕ) (reading : Reading) (draw : Draw) (judged : Judged) → IsValid s.parts
    → IsLegalHistory s history → n ≤ length history → IsRightFor s (take n history) reading
    → overtaking_entry s.parts history reading.front reading.unit ≡ None → IsRight s.parts reading draw judged
    → IsMoveOf s.parts (plan_of_history s history) draw judged
commit-moves s history n reading draw judged valid legal few right none judges =
    agreeing-moves s.parts (plan_of_history s history) reading draw judged (last_plan-legal s history valid legal)
    (untouched-agrees s history n reading valid legal few judges.well_formed right none) judges

-- what was judged by a look for the seat's next draw can be applied
pub look-moves : (k : KeptState) (parts : Parts) (unit : ℕ) (reading : Reading) (draw : Draw) (judged : Judged) → parts ≡ k.setting.parts → IsValid k.setting.parts → IsLegalHistory k.setting k.journal → IsLook k judged.seat unit reading
    → draw ≡ next_draw k.setting.parts k.setting.seed k.setting.run k.journal judged.seat → IsRight parts reading draw judged → IsNextMove k judged
look-moves k parts unit reading draw judged own valid legal looks drawn judges =
    let plan = plan_of_history k.setting k.journal in
    let right : IsRight k.setting.parts reading draw judged = subst (λ (p : Parts). IsRight p reading draw judged) own judges in
    subst (λ (d : Draw). IsMoveOf k.setting.parts plan d judged) drawn
    (agreeing-moves k.setting.parts plan reading draw judged (last_plan-legal k.setting k.journal valid legal) looks.agrees right)
