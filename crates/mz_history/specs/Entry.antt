-- One entry of an annealing history.
use Rattle.std.specs.Prelude.{ℕ, if◌then◌else◌, List, slice_index}
use Rattle.mz_model.specs.declared.parts.Parts.{Parts}
use Rattle.mz_model.specs.Move.{change_of_score, moved_plan}
use Rattle.mz_model.specs.Zones.{step_of}
use Rattle.mz_draw.specs.declared.draw.Draw.{Draw}
use Rattle.mz_cool.specs.Acceptance.{is_accepted}
use Rattle.mz_cool.specs.Schedule.{Cooling, temperature_at}
use Rattle.mz_history.specs.declared.entry.Entry.{Entry}

-- the zone that a draw moves its unit to
abbrev pub drawn_zone : Parts → List ℕ → Draw → ℕ
drawn_zone parts plan draw = step_of parts draw.unit (slice_index plan draw.unit) draw.shift

-- the entry at a position that a seat's draw makes of a plan: its move, the change of the whole score by it,
-- and whether the change is accepted at the position's temperature with the draw's word
abbrev pub next_entry : Parts → Cooling → List ℕ → ℕ → ℕ → Draw → Entry
next_entry parts cooling plan position seat draw =
    let change = change_of_score parts plan (moved_plan plan draw.unit (drawn_zone parts plan draw)) in
    record {
      seat = seat;
      number = draw.number;
      unit = draw.unit;
      old = slice_index plan draw.unit;
      new = drawn_zone parts plan draw;
      word = draw.word;
      change = change;
      accepted = is_accepted change (temperature_at cooling position) draw.word;
    }

-- an accepted entry moves its unit, a refused one changes nothing
abbrev pub plan_after : List ℕ → Entry → List ℕ
plan_after plan entry = if entry.accepted then moved_plan plan entry.unit entry.new else plan
