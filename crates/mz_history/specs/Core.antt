-- The core: workers look at a plan and commit what they judged, one event after another.
use Rattle.std.specs.Prelude.{ℕ, Bool, false, ◌&&◌, ◌++◌, List, [], ◌∷◌, length, map, nat_le, slice_get, slice_set, Option, None, Some, if◌then◌else◌}
use Rattle.mz_history.specs.declared.entry.Entry.{Entry}
use Rattle.mz_history.specs.declared.event.Event.{Event}
use Rattle.mz_history.specs.declared.event.Event.TheVariants.{Look, Commit}
use Rattle.mz_history.specs.declared.event.Reply.{Reply}
use Rattle.mz_history.specs.declared.event.Reply.TheVariants.{Looked, Decided, Again, Full, Strange}
use Rattle.mz_history.specs.declared.seat.SeatReading.{SeatReading}
use Rattle.mz_history.specs.declared.seat.SeatState.{SeatState}
use Rattle.mz_model.specs.declared.parts.Parts.{Parts}
use Rattle.mz_model.specs.Zones.{free_units, counts_of}
use Rattle.mz_draw.specs.Draws.{draw_at}
use Rattle.mz_draw.specs.declared.draw.Draw.{Draw}
use Rattle.mz_history.specs.Replay.{Setting, entry_of_turn, plan_of_history, turns_of}
use Rattle.mz_history.specs.Verdict.{Verdict, full, again, decided, verdict_of}

-- the journal, and what each seat has
pub record Core : Type 0 where
  pub journal : List Entry
  pub seats : List SeatState

-- a seat that has seen nothing
abbrev pub new_seat : SeatState
new_seat = record { seen = 0; reading = None }

abbrev pub with_seat : Core → ℕ → SeatState → Core
with_seat core seat state = record core { seats = slice_set core.seats seat state }

abbrev pub seats_of : List Entry → List ℕ
seats_of journal = map (λ (entry : Entry). entry.seat) journal

-- the next draw of a seat: its first that stands in no entry
abbrev pub next_draw : Parts → ℕ → ℕ → List Entry → ℕ → Draw
next_draw parts seed run journal seat =
    draw_at seed run seat (free_units parts) (counts_of parts) (turns_of seat (seats_of journal))

-- the entry that the seat's next draw makes of the journal's plan
abbrev pub entry_of_seat : Setting → List Entry → ℕ → Entry
entry_of_seat s journal seat = entry_of_turn s (seats_of journal) (plan_of_history s journal) seat

-- a front from what the seat has seen to the journal's length, where the seat is there
abbrev pub is_in_sight : ℕ → ℕ → Option SeatState → Bool
is_in_sight most front None = false
is_in_sight most front (Some state) = nat_le state.seen front && nat_le front most

-- a look reads the items of the unit of the seat's next draw; the seat has then seen the entries before the front
abbrev pub look : Setting → Core → ℕ → ℕ → Reply × Core
look s core seat front =
    (if is_in_sight (length core.journal) front (slice_get core.seats seat)
    then (
      Looked,
      with_seat core seat (record {
        seen = front;
        reading = Some (record { front = front; unit = (next_draw s.parts s.seed s.run core.journal seat).unit });
      }),
    )
    else (Strange, core))

-- the seat has seen the whole journal, and its reading is spent
abbrev pub spent : Core → ℕ → Core
spent core seat = with_seat core seat (record { seen = length core.journal; reading = None })

abbrev pub answered : Setting → Core → ℕ → Verdict → Reply × Core
answered s core seat full = (Full, spent core seat)
answered s core seat (again position) = (Again position, spent core seat)
answered s core seat decided =
    let entry = entry_of_seat s core.journal seat in
    (Decided entry, spent (record core { journal = core.journal ++ entry ∷ [] }) seat)

abbrev pub committed : Setting → ℕ → Core → ℕ → Option SeatReading → Reply × Core
committed s limit core seat None = (Strange, core)
committed s limit core seat (Some reading) =
    answered s core seat (verdict_of s.parts core.journal limit reading.front reading.unit)

-- the reading of a seat, if it is there and has one
abbrev pub reading_of : Option SeatState → Option SeatReading
reading_of None = None
reading_of (Some state) = state.reading

abbrev pub commit : Setting → ℕ → Core → ℕ → Reply × Core
commit s limit core seat = committed s limit core seat (reading_of (slice_get core.seats seat))

-- the reply to an event, and the core after it
abbrev pub core_step : Setting → ℕ → Core → Event → Reply × Core
core_step s limit core (Look seat front) = look s core seat front
core_step s limit core (Commit seat) = commit s limit core seat
