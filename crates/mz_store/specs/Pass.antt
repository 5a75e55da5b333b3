-- What contracts see of a pass, and what its type keeps.
use Rattle.std.specs.Prelude.{reverse, ◌≡◌, ◌+◌, ◌<◌, ◌≤◌, ℕ, List, [], length, Option, Some, None, slice_get}
use Rattle.mz_board.specs.Chair.{BoardId, ChairState}
use Rattle.mz_draw.specs.declared.draw.Draw.{Draw}
use Rattle.mz_draw.specs.Draws.{draw_at}
use Rattle.mz_model.specs.Zones.{counts_of, free_units}
use Rattle.mz_delta.specs.declared.reading.Reading.{Reading}
use Rattle.mz_delta.specs.Reading.{IsWellFormed}
use Rattle.mz_history.specs.declared.entry.Entry.{Entry}
use Rattle.mz_history.specs.Core.{seats_of}
use Rattle.mz_history.specs.Replay.{turns_of}
use Rattle.mz_store.specs.declared.told.Told.{Told}
use Rattle.mz_store.specs.Looks.{IsLoaded, loads_of}
use Rattle.mz_store.specs.RunSetting.{RunSetting}
use Rattle.mz_store.specs.Told.{untold}

pub record PassState : Type 0 where
  -- the store that it is of
  pub store : BoardId RunSetting
  pub seat : ℕ
  -- the list that it has seen, and how many entries it has seen, which may be more
  pub seen : List Entry
  pub reached : ℕ
  -- the number of its next draw
  pub number : ℕ
  -- its last reading, if that isn't spent
  pub reading : Option Reading
  -- how many of its tries for the turn failed, and the lock word that the last of these found
  pub tries : ℕ
  pub found : ℕ
  -- how many times it loaded the front, the last front that it found, and the words that it loaded since, each with
  -- what was found, the last one first
  pub fronts : ℕ
  pub front : Option ℕ
  pub loads : List (ℕ × ℕ)

-- a pass with a chair
abbrev pub pass_of : ChairState Told RunSetting → ℕ → ℕ → Option Reading → PassState
pass_of chair number reached reading = record {
  store = chair.lock;
  seat = chair.number;
  seen = untold chair.seen;
  reached = reached;
  number = number;
  reading = reading;
  tries = chair.tries;
  found = chair.found;
  fronts = chair.post.fronts;
  front = chair.post.front;
  loads = chair.post.items;
}

-- room for chairs: for how many, and how many are there
pub record Room : Type 0 where
  pub capacity : ℕ
  pub used : ℕ

-- the pass doesn't hold the turn, and its own entries are those of its seat in the list that it has seen; its last
-- reading is what its chair loaded; its room, of which nothing is used, is for the chairs of all passes
pub record IsPass
    (chair : ChairState Told RunSetting) (seat number reached : ℕ) (reading : Option Reading) (room : Room)
    : Type 0 where
  pub idle : chair.taken ≡ None
  pub own : chair.own ≡ chair.seen
  pub told : chair.told ≡ []
  pub seat_is : seat ≡ chair.number
  pub within : chair.number < chair.lock.seats
  pub number_is : number ≡ turns_of chair.number (seats_of (untold chair.seen))
  pub reached_is : reached ≡ chair.post.reached
  pub least : length chair.seen ≤ chair.post.reached
  pub read : (last : Reading) (run : RunSetting) → reading ≡ Some last → chair.lock.setting ≡ Some run
      → IsLoaded run.setting.parts chair.number chair.post last
  pub room_is : chair.lock.seats ≤ room.capacity
  pub unused : room.used ≡ 0

-- a pass at the opening: it has seen and read nothing
abbrev pub fresh_pass : BoardId RunSetting → ℕ → PassState
fresh_pass store seat = record {
  store = store;
  seat = seat;
  seen = [];
  reached = 0;
  number = 0;
  reading = None;
  tries = 0;
  found = 0;
  fronts = 0;
  front = None;
  loads = [];
}

-- so many passes, in the order of their seats, as at the opening
pub record AreFresh (store : BoardId RunSetting) (seats : ℕ) (passes : List PassState) : Type 0 where
  pub count : length passes ≡ seats
  pub each : (seat : ℕ) → seat < seats → slice_get passes seat ≡ Some (fresh_pass store seat)

-- a pass's next draw
abbrev pub draw_of : RunSetting → PassState → Draw
draw_of run pass =
    draw_at run.setting.seed run.setting.run pass.seat
    (free_units run.setting.parts) (counts_of run.setting.parts) pass.number

-- what a look gives: a well-formed reading of the unit, of the pass's seat, whose front is at least what the pass had
-- seen; the front was loaded once, and after it each item of the unit
pub record Looks (run : RunSetting) (old new : PassState) (unit : ℕ) (reading : Reading) : Type 0 where
  pub unit_is : reading.unit ≡ unit
  pub seat_is : reading.seat ≡ old.seat
  pub well_formed : IsWellFormed run.setting.parts reading
  pub least : old.reached ≤ reading.front
  pub most : reading.front ≤ run.limit
  pub now : new ≡ record old {
    reached = reading.front;
    reading = Some reading;
    fronts = old.fronts + 1;
    front = Some reading.front;
    loads = reverse (loads_of run.setting.parts reading);
  }
