-- A commit that an entry overtook.
use Rattle.std.specs.Prelude.{◌≡◌, ◌<◌, ◌≤◌, ℕ, true, length, Some, slice_get, slice_index_or}
use Rattle.std.specs.List.{Any}
use Rattle.mz_model.specs.Items.{items_of}
use Rattle.mz_history.specs.declared.seat.SeatReading.{SeatReading}
use Rattle.mz_history.specs.Core.{Core, reading_of}
use Rattle.mz_history.specs.Items.{changes}
use Rattle.mz_history.specs.Replay.{Setting}
use Rattle.mz_history.specs.Verdict.{no_entry}

-- the entry at the position was accepted, stands at the front of the seat's reading or later, and changes an item of
-- the reading's unit
pub record IsOvertakenCommit (s : Setting) (core : Core) (seat position : ℕ) : Type 0 where
  pub reading : SeatReading
  pub read : reading_of (slice_get core.seats seat) ≡ Some reading
  pub from : reading.front ≤ position
  pub within : position < length core.journal
  pub accepted : (slice_index_or core.journal position no_entry).accepted ≡ true
  pub changed : Any (λ item. changes s.parts (slice_index_or core.journal position no_entry) item ≡ true)
      (items_of s.parts reading.unit)
