-- Readings whose items were loaded one by one are right for the journal that the turn finds.
use Rattle.std.proofs.Common.{◌≡◌, ℕ, zero, suc, ◌+◌, ◌-◌, ◌<◌, ◌≤◌, true, false, List, [], ◌∷◌, ◌++◌, length, length-append, get_or, map, take, drop, reverse, None, sym, ap, ◌∙◌, subst, arith, inl, inr}
use Rattle.std.specs.Prelude.{slice_index}
use Rattle.std.specs.List.{All, list_any, zip}
use Rattle.std.proofs.Math.Seq.{get_or-append_seam, take-length}
use Rattle.std.proofs.lemmas.Bool.{cases_Bool, false≢true}
use Rattle.std.proofs.lemmas.List.{get_or-drop, get_or-map, get_or-reverse, length-drop, length-map, length-reverse}
use Rattle.std.proofs.lemmas.List.Elements.{All-append, All-cons, All-map}
use Rattle.std.proofs.lemmas.List.Folds.{list_any_at}
use Rattle.std.proofs.lemmas.Option.{none-some}
use Rattle.mz_board.specs.declared.post.Post.{Post}
use Rattle.mz_board.specs.Chair.{Reads}
use Rattle.mz_board.specs.Items.{IsWrittenFrom, ReadOk, written}
use Rattle.mz_draw.specs.declared.draw.Draw.{Draw}
use Rattle.mz_model.specs.declared.neighbour.Neighbour.{Neighbour}
use Rattle.mz_model.specs.declared.parts.Parts.{Parts}
use Rattle.mz_model.specs.Boundary.{neighbours_of}
use Rattle.mz_model.specs.Items.{Item, items_of, row_item, unit_item}
use Rattle.mz_model.specs.Parts.{unit_count}
use Rattle.mz_model.specs.Move.{moved_plan}
use Rattle.mz_model.specs.Plans.{IsLegalPlan}
use Rattle.mz_model.specs.Targets.{gain_of, held_of, touched_rows}
use Rattle.mz_model.specs.Valid.{IsValid}
use Rattle.mz_model.specs.Zones.{step_of}
use Rattle.mz_model.proofs.NeighbourLaws.{neighbours_of-in_range}
use Rattle.mz_model.proofs.TouchLaws.{touched_rows-in_range}
use Rattle.mz_delta.specs.declared.judged.Judged.{Judged}
use Rattle.mz_delta.specs.declared.reading.Reading.{Reading}
use Rattle.mz_delta.specs.Judged.{IsRight}
use Rattle.mz_delta.specs.Reading.{Agrees}
use Rattle.mz_delta.proofs.MoveLaws.{held-moved}
use Rattle.mz_history.specs.declared.entry.Entry.{Entry}
use Rattle.mz_history.specs.Core.{next_draw}
use Rattle.mz_history.specs.Items.{changes, value_of_item}
use Rattle.mz_history.specs.Moves.{IsMove}
use Rattle.mz_history.specs.Replay.{IsLegalHistory, plan_of_history, Setting}
use Rattle.mz_history.specs.Verdict.{overtaking_entry}
use Rattle.mz_history.proofs.LegalHistoryLaws.{last_plan-legal}
use Rattle.mz_state.specs.Kept.{IsKept, KeptState}
use Rattle.mz_state.specs.Looks.{IsRightFor, read_values}
use Rattle.mz_state.specs.NextMove.{IsMoveOf, IsNextMove}
use Rattle.mz_state.proofs.CommitLaws.{commit-moves, untouched-agrees}
use Rattle.mz_store.specs.declared.told.Told.{Told}
use Rattle.mz_store.specs.Looks.{IsLoaded, loads_of}
use Rattle.mz_store.specs.Told.{told_all, untold, writes}
use Rattle.mz_store.specs.Turns.{ShowsGains}
use Rattle.mz_store.specs.Words.{IsItem, opening_words, word_of_item}
use Rattle.mz_store.proofs.ToldLaws.{length-untold, told-split}
use Rattle.mz_store.proofs.WordLaws.{words-follow, written-same}

-- ---- lists

pub all-reversed : {X : Type 0} (P : X → Type 0) (xs : List X) → All P (reverse xs) → All P xs
all-reversed P xs all = λ k d h.
    let back : length xs - 1 - (length xs - 1 - k) ≡ k = omega (arith, h) in
    subst P (get_or-reverse xs (length xs - 1 - k) d (omega (arith, h)) ∙ ap (λ i. get_or xs i d) back) (all (length xs - 1 - k) d (omega (arith, h, length-reverse xs)))

all-unmapped : {X Y : Type 0} (P : Y → Type 0) (f : X → Y) (xs : List X) → All P (map f xs) → All (λ x. P (f x)) xs
all-unmapped P f xs all = λ k d h. subst P (get_or-map f xs k d (f d) h) (all k (f d) (omega (arith, h, length-map xs f)))

zip-firsts : (P : Item → Type 0) (items : List Item) (values : List ℕ) → All P items → All (λ (read : Item × ℕ). P read.0) (zip items values)
zip-firsts P [] values all k d h = absurd (omega arith)
zip-firsts P (item ∷ items) [] all k d h = absurd (omega arith)
zip-firsts P (item ∷ items) (v ∷ vs) all zero d h = all 0 item (omega arith)
zip-firsts P (item ∷ items) (v ∷ vs) all (suc k) d h = zip-firsts P items vs (λ i e g. all (suc i) e (omega arith)) k d (omega arith)

-- the items of a unit are items of the problem
items-inside : (parts : Parts) (unit : ℕ) → IsValid parts → unit < unit_count parts → All (IsItem parts) (items_of parts unit)
unfolding items_of
items-inside parts unit valid within =
    All-cons (IsItem parts) (unit_item unit) _ within
    (All-append (IsItem parts) (map (λ (neighbour : Neighbour). unit_item neighbour.unit) (neighbours_of parts unit)) (map row_item (touched_rows parts unit))
    (All-map (IsItem parts) (λ (neighbour : Neighbour). unit_item neighbour.unit) (neighbours_of parts unit) (neighbours_of-in_range parts unit valid))
    (All-map (IsItem parts) row_item (touched_rows parts unit) (touched_rows-in_range parts unit)))

-- ---- one item

-- an item that a told entry at the front or later writes is changed there
written-changes : (s : Setting) (journal : List Entry) (front : ℕ) (item : Item) → All (IsMove s.parts) journal → IsItem s.parts item → IsWrittenFrom writes front (word_of_item s.parts item) (told_all s journal)
    → list_any (λ entry. changes s.parts entry item) (drop front journal) ≡ true
written-changes s journal front item moves within w =
    let split = told-split s journal w.before w.entry w.after w.list_is in
    let place = length (untold w.before) in let e = w.entry.entry in
    let count : length (untold w.before) ≡ length w.before = length-untold w.before in
    let later : front ≤ place = omega (arith, w.later, count) in
    let whole : length journal ≡ place + suc (length (untold w.after)) = ap length split.journal_is ∙ length-append (untold w.before) (e ∷ untold w.after) in
    let at : get_or journal place e ≡ e = ap (λ (es : List Entry). get_or es place e) split.journal_is ∙ get_or-append_seam (untold w.before) e (untold w.after) e in
    let move : IsMove s.parts e = subst (IsMove s.parts) at (moves place e (omega (arith, whole))) in
    let change : changes s.parts e item ≡ true = elim (cases_Bool (changes s.parts e item)) [
      | inl yes_ ↦ yes_
      | inr stays ↦ absurd (none-some w.value (sym (written-same s (untold w.before) e item move within stays) ∙ ap (λ (t : Told). written (word_of_item s.parts item) t.writes) (sym split.told_is) ∙ w.writes_it))
    ] in
    let back : front + (place - front) ≡ place = omega (arith, later) in
    list_any_at (λ (entry : Entry). changes s.parts entry item) (drop front journal) (place - front) e (omega (arith, length-drop front journal, whole, later))
    (ap (λ (x : Entry). changes s.parts x item) (get_or-drop front journal (place - front) e ∙ ap (λ i. get_or journal i e) back ∙ at) ∙ change)

-- an item that no entry since the front changed has the loaded value
loaded-value : (s : Setting) (journal : List Entry) (front : ℕ) (item : Item) (value : ℕ) → IsValid s.parts → IsLegalHistory s journal → All (IsMove s.parts) journal → IsItem s.parts item
    → ReadOk writes front (opening_words s) (told_all s journal) (word_of_item s.parts item, value)
    → list_any (λ entry. changes s.parts entry item) (drop front journal) ≡ false → value ≡ value_of_item s journal item
loaded-value s journal front item value valid legal moves within (inl same) still = sym same ∙ words-follow s journal valid legal moves item within
loaded-value s journal front item value valid legal moves within (inr w) still = absurd (false≢true (sym still ∙ written-changes s journal front item moves within w))

-- ---- whole readings

pub loaded-right : (s : Setting) (journal : List Entry) (opening : List ℕ) (seat : ℕ) (post : Post) (reading : Reading) → IsValid s.parts → IsLegalHistory s journal → All (IsMove s.parts) journal → opening ≡ opening_words s
    → Reads writes opening post (told_all s journal) → IsLoaded s.parts seat post reading → length (told_all s journal) ≡ length journal → IsRightFor s journal reading
loaded-right s journal opening seat post reading valid legal moves opens reads loaded count =
    let front = reading.front in
    let start : All (ReadOk writes front opening (told_all s journal)) post.items = reads.items front loaded.front_is in
    let own : All (ReadOk writes front (opening_words s) (told_all s journal)) post.items = subst (λ (ws : List ℕ). All (ReadOk writes front ws (told_all s journal)) post.items) opens start in
    let turned : All (ReadOk writes front (opening_words s) (told_all s journal)) (reverse (loads_of s.parts reading)) = subst (λ (ws : List (ℕ × ℕ)). All (ReadOk writes front (opening_words s) (told_all s journal)) ws) loaded.loads_are own in
    let loads : All (λ (read : Item × ℕ). ReadOk writes front (opening_words s) (told_all s journal) (word_of_item s.parts read.0, read.1)) (read_values s.parts reading) =
    all-unmapped (ReadOk writes front (opening_words s) (told_all s journal)) (λ (read : Item × ℕ). (word_of_item s.parts read.0, read.1)) (read_values s.parts reading)
    (all-reversed (ReadOk writes front (opening_words s) (told_all s journal)) (loads_of s.parts reading) turned) in
    let items = zip-firsts (IsItem s.parts) (items_of s.parts reading.unit) (reading.zone ∷ (reading.neighbours.items ++ reading.totals.items)) (items-inside s.parts reading.unit valid loaded.well_formed.unit) in
    record {
      seen = omega (arith, reads.front front loaded.front_is, count);
      current = λ k d h. loaded-value s journal front (get_or (read_values s.parts reading) k d).0 (get_or (read_values s.parts reading) k d).1 valid legal moves (items k d h) (loads k d h);
    }

-- what was judged by a reading that nothing overtook is the next move
pub next-moves : (k : KeptState) (seat : ℕ) (reading : Reading) (judged : Judged) → IsKept k → IsRightFor k.setting k.journal reading → overtaking_entry k.setting.parts k.journal reading.front reading.unit ≡ None
    → judged.seat ≡ seat → IsRight k.setting.parts reading (next_draw k.setting.parts k.setting.seed k.setting.run k.journal seat) judged → IsNextMove k judged
next-moves k seat reading judged kept right none own judges =
    let early : IsRightFor k.setting (take (length k.journal) k.journal) reading = subst (λ (h : List Entry). IsRightFor k.setting h reading) (sym (take-length k.journal)) right in
    subst (λ (n : ℕ). IsMoveOf k.setting.parts (plan_of_history k.setting k.journal) (next_draw k.setting.parts k.setting.seed k.setting.run k.journal n) judged) (sym own)
    (commit-moves k.setting k.journal (length k.journal) reading (next_draw k.setting.parts k.setting.seed k.setting.run k.journal seat) judged kept.valid kept.journal.history (omega arith) early none judges)

-- what was judged by a reading with which a legal plan agrees shows, by the totals before and after, what the unit gains
judged-gains : (parts : Parts) (plan : List ℕ) (reading : Reading) (draw : Draw) (judged : Judged) → IsLegalPlan parts plan → Agrees parts plan reading → IsRight parts reading draw judged → ShowsGains parts reading judged
judged-gains parts plan reading draw judged legal agrees judges =
    let unit = reading.unit in let zone = step_of parts draw.unit reading.zone draw.shift in let move = judges.move in
    let rows = touched_rows parts judged.unit in let after = held_of parts (moved_plan plan unit zone) in
    let difference = move.difference plan legal agrees in record {
      count = judges.well_formed.touched ∙ ap (λ u. length (touched_rows parts u)) (sym move.unit);
      gains = λ i inside.
          let row = slice_index rows i in
          let read : slice_index reading.totals.items i ≡ held_of parts plan row = ap (λ (ts : List ℕ). slice_index ts i) agrees.totals
          ∙ ap (λ u. slice_index (map (held_of parts plan) (touched_rows parts u)) i) (sym move.unit) ∙ get_or-map (held_of parts plan) rows i 0 0 inside in
          let moved : slice_index judged.totals.items i ≡ after row = ap (λ (ts : List ℕ). slice_index ts i) difference.totals ∙ get_or-map after rows i 0 0 inside in
          let held = held-moved parts plan unit zone row legal judges.well_formed.unit in
          let lost : gain_of parts row judged.unit judged.old ≡ gain_of parts row unit (slice_index plan unit) = ap (λ u. gain_of parts row u judged.old) move.unit ∙ ap (gain_of parts row unit) (move.old ∙ agrees.unit) in
          let gained : gain_of parts row judged.unit judged.new ≡ gain_of parts row unit zone = ap (λ u. gain_of parts row u judged.new) move.unit ∙ ap (gain_of parts row unit) move.new in
          omega (arith, read, moved, held, lost, gained);
    }

-- and so does what was judged by a reading that nothing overtook
pub next-gains : (k : KeptState) (reading : Reading) (draw : Draw) (judged : Judged) → IsKept k → IsRightFor k.setting k.journal reading → overtaking_entry k.setting.parts k.journal reading.front reading.unit ≡ None
    → IsRight k.setting.parts reading draw judged → ShowsGains k.setting.parts reading judged
next-gains k reading draw judged kept right none judges =
    let early : IsRightFor k.setting (take (length k.journal) k.journal) reading = subst (λ (h : List Entry). IsRightFor k.setting h reading) (sym (take-length k.journal)) right in
    judged-gains k.setting.parts (plan_of_history k.setting k.journal) reading draw judged (last_plan-legal k.setting k.journal kept.valid kept.journal.history)
    (untouched-agrees k.setting k.journal (length k.journal) reading kept.valid kept.journal.history (omega arith) judges.well_formed early none) judges
