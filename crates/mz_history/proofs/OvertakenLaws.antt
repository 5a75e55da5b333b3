-- What an entry that overtakes a reading is.
use Rattle.std.proofs.Common.{◌≡◌, ℕ, suc, ◌<◌, ◌≤◌, ◌==◌, Bool, true, false, if◌then◌else◌, List, [], ◌∷◌, length, Option, Some, None, refl, sym, ap, subst, ◌∙◌, arith, inl, inr}
use Rattle.std.specs.Prelude.{◌&&◌, nat_le, slice_get, slice_index_or}
use Rattle.std.specs.List.{All, last_or}
use Rattle.std.proofs.lemmas.Bool.{cases_Bool, false≢true, leb-true}
use Rattle.std.proofs.lemmas.List.Folds.{Any-from_list_any}
use Rattle.std.proofs.lemmas.Option.{none-some}
use Rattle.mz_num.specs.Places.{places_below}
use Rattle.mz_num.proofs.PlaceLaws.{places_below-in_range, places_below-pass}
use Rattle.mz_model.specs.Items.{items_of}
use Rattle.mz_model.specs.declared.parts.Parts.{Parts}
use Rattle.mz_history.specs.declared.entry.Entry.{Entry}
use Rattle.mz_history.specs.declared.event.Event.{Event}
use Rattle.mz_history.specs.declared.event.Event.TheVariants.{Commit}
use Rattle.mz_history.specs.declared.event.Reply.{Reply}
use Rattle.mz_history.specs.declared.event.Reply.TheVariants.{Again}
use Rattle.mz_history.specs.declared.seat.SeatReading.{SeatReading}
use Rattle.mz_history.specs.Core.{answered, commit, committed, Core, reading_of}
use Rattle.mz_history.specs.Items.{changes, changes_around}
use Rattle.mz_history.specs.Overtaken.{IsOvertakenCommit}
use Rattle.mz_history.specs.Replay.{Setting}
use Rattle.mz_history.specs.Verdict.{again, decided, full, no_entry, overtakes, overtaking_entry, Verdict, verdict_if, verdict_of}
use Rattle.mz_history.proofs.OvertakingLemmas.{around-refused}

-- ---- the last place that passes

last-passes : (P : ℕ → Type 0) (xs : List ℕ) (o : Option ℕ) (p : ℕ) → last_or o xs ≡ Some p → (o ≡ Some p → P p) → All P xs → P p
last-passes P [] o p last start all = start last
last-passes P (x ∷ xs) o p last start all =
    last-passes P xs (Some x) p last (λ same. let e : x ≡ p = cc in subst P e (all 0 x (omega arith))) (λ k d h. all (suc k) d (omega arith))

both : (a b : Bool) → (a && b) ≡ true → (a ≡ true) × (b ≡ true)
both true b h = (refl, h)
both false b h = absurd (false≢true h)

-- the entry at the position stands at the front or later, and changes an item of the unit
pub record IsOvertaking (parts : Parts) (history : List Entry) (front unit position : ℕ) : Type 0 where
  pub from : front ≤ position
  pub within : position < length history
  pub around : changes_around parts unit (slice_index_or history position no_entry) ≡ true

pub overtaking-is : (parts : Parts) (history : List Entry) (front unit position : ℕ) → overtaking_entry parts history front unit ≡ Some position → IsOvertaking parts history front unit position
overtaking-is parts history front unit position is =
    let test = overtakes parts history front unit in
    let two : (test position ≡ true) × (position < length history) =
    last-passes (λ k. (test k ≡ true) × (k < length history)) (places_below (length history) test) None position is (λ e. absurd (none-some position e))
    (λ k d h. (places_below-pass (length history) test k d h, places_below-in_range (length history) test k d h)) in
    let parts_of = both (nat_le front position) (changes_around parts unit (slice_index_or history position no_entry)) two.0 in record {
      from = leb-true front position parts_of.0;
      within = two.1;
      around = parts_of.1;
    }

pub around-accepted_only : (parts : Parts) (unit : ℕ) (entry : Entry) → changes_around parts unit entry ≡ true → entry.accepted ≡ true
around-accepted_only parts unit entry around = elim (cases_Bool entry.accepted) [
  | inl taken ↦ taken
  | inr refused ↦ absurd (false≢true (around-refused parts unit entry refused ∙ around))
]

-- ---- the verdict again

verdict_again : (o : Option ℕ) (position : ℕ) (all : Bool) → (if all then full else verdict_if o) ≡ again position → o ≡ Some position
verdict_again o position true is = absurd cc
verdict_again None position false is = absurd cc
verdict_again (Some place) position false is = let same : place ≡ position = cc in ap Some same

reply_again : (s : Setting) (core : Core) (seat position : ℕ) (v : Verdict) → (answered s core seat v).0 ≡ Again position → v ≡ again position
reply_again s core seat position full is = absurd cc
reply_again s core seat position (again place) is = let same : place ≡ position = cc in ap again same
reply_again s core seat position decided is = absurd cc

with_reading : (s : Setting) (limit seat position : ℕ) (core : Core) (o : Option SeatReading) → reading_of (slice_get core.seats seat) ≡ o → (committed s limit core seat o).0 ≡ Again position → IsOvertakenCommit s core seat position
with_reading s limit seat position core None read is = absurd cc
with_reading s limit seat position core (Some reading) read is =
    let overtaken = overtaking-is s.parts core.journal reading.front reading.unit position
    (verdict_again (overtaking_entry s.parts core.journal reading.front reading.unit) position (length core.journal == limit) (reply_again s core seat position (verdict_of s.parts core.journal limit reading.front reading.unit) is)) in record {
      reading = reading;
      read = read;
      from = overtaken.from;
      within = overtaken.within;
      accepted = around-accepted_only s.parts reading.unit (slice_index_or core.journal position no_entry) overtaken.around;
      changed = Any-from_list_any (changes s.parts (slice_index_or core.journal position no_entry)) (items_of s.parts reading.unit) overtaken.around;
    }

-- the entry that a commit's Again names overtook the seat's reading
pub commit-overtaken : (s : Setting) (limit seat own position : ℕ) (core : Core) (event : Event) (reply : Reply) → event ≡ Commit own → event ≡ Commit seat → reply ≡ (commit s limit core own).0 → reply ≡ Again position → IsOvertakenCommit s core seat position
commit-overtaken s limit seat own position core event reply asked is answer told =
    let same : own ≡ seat = cc in
    subst (λ k. IsOvertakenCommit s core k position) same (with_reading s limit own position core (reading_of (slice_get core.seats own)) refl (sym answer ∙ told))
