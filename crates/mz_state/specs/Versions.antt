-- Versions: when an item was last changed.
use Rattle.std.specs.Prelude.{ℕ, zero, suc, ◌-◌, max, Bool, cond, nat_lt, ◌==◌}
use Rattle.std.specs.Prelude.{if◌then◌else◌, List, [], ◌∷◌, length, slice_index, slice_index_or, Option, None, Some}
use Rattle.mz_num.specs.Places.{list_below}
use Rattle.mz_model.specs.declared.neighbour.Neighbour.{Neighbour}
use Rattle.mz_model.specs.declared.parts.Parts.{Parts}
use Rattle.mz_model.specs.declared.touch.Touch.{Touch}
use Rattle.mz_model.specs.Boundary.{neighbours_of}
use Rattle.mz_model.specs.Items.{Item}
use Rattle.mz_model.specs.Parts.{target_count}
use Rattle.mz_model.specs.Targets.{gain_of, touches_of}
use Rattle.mz_history.specs.declared.entry.Entry.{Entry}
use Rattle.mz_history.specs.Items.{changes}
use Rattle.mz_history.specs.Verdict.{no_entry}

-- how many places reach up to the last one below n that passes the test: 0 where none does
abbrev pub reach_of : (ℕ → Bool) → ℕ → ℕ
reach_of test zero = 0
reach_of test (suc n) = if test n then suc n else reach_of test n

-- how many entries reach up to the last accepted one that changed the item
abbrev pub version_of : Parts → List Entry → Item → ℕ
version_of parts journal item =
    reach_of (λ position. changes parts (slice_index_or journal position no_entry) item) (length journal)

-- how many entries reach up to the last accepted one
abbrev pub last_accepted : List Entry → ℕ
last_accepted journal = reach_of (λ position. (slice_index_or journal position no_entry).accepted) (length journal)

-- the greatest of what f gives of the things, and 0 where there is none
abbrev pub greatest_by : {X : Type 0} → (X → ℕ) → List X → ℕ
greatest_by f [] = 0
greatest_by f (x ∷ xs) = max (f x) (greatest_by f xs)

-- the position to which a version reaches, where it reaches past the front
abbrev pub position_past : ℕ → ℕ → Option ℕ
position_past front version = if nat_lt front version then Some (version - 1) else None

-- versions of target rows once a unit has moved between two zones, by an entry up to which so many reach: these for
-- each row for which the unit gains otherwise
abbrev pub raised_rows : Parts → ℕ → ℕ → ℕ → ℕ → List ℕ → List ℕ
raised_rows parts unit from to count versions =
    list_below (target_count parts)
    (λ row. cond (gain_of parts row unit from == gain_of parts row unit to) (slice_index versions row) count)

-- the greatest version of a unit's items, by the versions of units and target rows
abbrev pub version_around : Parts → List ℕ → List ℕ → ℕ → ℕ
version_around parts units rows unit =
    max (slice_index units unit)
    (max (greatest_by (λ (neighbour : Neighbour). slice_index units neighbour.unit) (neighbours_of parts unit))
    (greatest_by (λ (touch : Touch). slice_index rows touch.row) (touches_of parts unit)))
