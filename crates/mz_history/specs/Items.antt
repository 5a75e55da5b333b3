-- Items of a history: their values, what an entry changes, and readings that are right.
use Rattle.std.specs.Prelude.{◌≡◌, ◌≤◌, ℕ, Bool, false, not, ◌&&◌, ◌==◌, List, length, drop, slice_index}
use Rattle.std.specs.List.{All, list_any}
use Rattle.mz_model.specs.declared.parts.Parts.{Parts}
use Rattle.mz_model.specs.Items.{Item, unit_item, row_item, items_of}
use Rattle.mz_model.specs.Targets.{gain_of, held_of}
use Rattle.mz_history.specs.declared.entry.Entry.{Entry}
use Rattle.mz_history.specs.Replay.{Setting, plan_of_history}

-- an accepted entry changes its unit, and each target row for which the unit gains otherwise in its new zone than in
-- its old one; a refused entry changes nothing
abbrev pub changes : Parts → Entry → Item → Bool
changes parts entry (unit_item unit) = entry.accepted && entry.unit == unit
changes parts entry (row_item row) =
    entry.accepted && not (gain_of parts row entry.unit entry.old == gain_of parts row entry.unit entry.new)

-- the entry changes an item of the unit
abbrev pub changes_around : Parts → ℕ → Entry → Bool
changes_around parts unit entry = list_any (changes parts entry) (items_of parts unit)

-- the value of an item in a plan: the zone of a unit, or what is held for a target row
abbrev pub value_in_plan : Parts → List ℕ → Item → ℕ
value_in_plan parts plan (unit_item unit) = slice_index plan unit
value_in_plan parts plan (row_item row) = held_of parts plan row

-- the value of an item after a history
abbrev pub value_of_item : Setting → List Entry → Item → ℕ
value_of_item s history item = value_in_plan s.parts (plan_of_history s history) item

-- values of items as they were read behind `front` entries: each that no later entry changes is that of the history
pub record IsCurrent (s : Setting) (history : List Entry) (front : ℕ) (values : List (Item × ℕ)) : Type 0 where
  pub seen : front ≤ length history
  pub current : All (λ (read : Item × ℕ). list_any (λ entry. changes s.parts entry read.0) (drop front history) ≡ false
      → read.1 ≡ value_of_item s history read.0) values
