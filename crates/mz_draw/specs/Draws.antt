-- The draws of a seat.
use Rattle.std.specs.Prelude.{◌≡◌, ℕ, ◌+◌, ◌-◌, ◌*◌, ◌<◌, ◌≤◌, List, length, slice_index}
use Rattle.mz_draw.specs.declared.draw.Draw.{Draw}
use Rattle.mz_draw.specs.Words.{word_at, pick_of}

-- the seat's k-th draw, from 0, which takes the words 3k, 3k + 1 and 3k + 2: one of the free units
-- in order, how many places it goes round its allowed zones, and the word of its acceptance
unfoldable pub draw_at : ℕ → ℕ → ℕ → List ℕ → List ℕ → ℕ → Draw
draw_at seed run seat free counts k =
    let place = pick_of (length free) (word_at seed run seat (3 * k)) in
    record {
      number = k;
      unit = slice_index free place;
      shift = 1 + pick_of (slice_index counts place - 1) (word_at seed run seat (3 * k + 1));
      word = word_at seed run seat (3 * k + 2);
    }

-- a draw names one of the free units and moves it to another of its allowed zones
pub record IsDrawFrom (free counts : List ℕ) (draw : Draw) : Type 0 where
  pub place : ℕ
  pub within : place < length free
  pub unit : draw.unit ≡ slice_index free place
  pub moves : 1 ≤ draw.shift
  pub goes_round : draw.shift < slice_index counts place
