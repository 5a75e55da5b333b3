-- Loads of several items.
use Rattle.std.specs.Prelude.{reverse, ◌≡◌, ◌+◌, ◌<◌, ℕ, IsTrue, List, ◌++◌, length, map, slice_index}
use Rattle.mz_board.specs.Chair.{ChairState}
use Rattle.mz_model.specs.declared.neighbour.Neighbour.{Neighbour}
use Rattle.mz_model.specs.declared.parts.Parts.{Parts}
use Rattle.mz_model.specs.Boundary.{neighbours_of}
use Rattle.mz_model.specs.Parts.{unit_count}
use Rattle.mz_model.specs.Targets.{touched_rows}
use Rattle.mz_model.specs.Zones.{is_allowed}
use Rattle.mz_delta.specs.Reading.{neighbour_at}

-- words were loaded one after another, each with what was found
abbrev pub with_items : {E S : Type 0} → ChairState E S → List (ℕ × ℕ) → ChairState E S
with_items chair loads = record chair { post = record chair.post { items = reverse loads ++ chair.post.items } }

-- the words of a unit's neighbours, and those of the target rows that it touches
abbrev pub places_around : Parts → ℕ → List ℕ
places_around parts unit = map (λ (neighbour : Neighbour). neighbour.unit) (neighbours_of parts unit)

abbrev pub rows_of : Parts → ℕ → List ℕ
rows_of parts unit = map (λ row. unit_count parts + row) (touched_rows parts unit)

-- a zone for each neighbour of the unit, which is allowed for it
pub record AreZonesAround (parts : Parts) (unit : ℕ) (zones : List ℕ) : Type 0 where
  pub count : length zones ≡ length (neighbours_of parts unit)
  pub allowed : (i : ℕ) → i < length (neighbours_of parts unit)
      → IsTrue (is_allowed parts (neighbour_at parts unit i) (slice_index zones i))
