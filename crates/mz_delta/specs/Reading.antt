-- Readings: well formed ones, and the plans that agree with them.
use Rattle.std.specs.Prelude.{◌≡◌, ℕ, ◌<◌, ◌≤◌, ◌^◌, IsTrue, List, length, map, slice_index, slice_index_or}
use Rattle.std.specs.List.{All}
use Rattle.mz_model.specs.declared.neighbour.Neighbour.{Neighbour}
use Rattle.mz_model.specs.declared.parts.Parts.{Parts}
use Rattle.mz_model.specs.Boundary.{neighbours_of, no_neighbour}
use Rattle.mz_model.specs.Parts.{unit_count, target_count}
use Rattle.mz_num.specs.Places.{list_below}
use Rattle.mz_num.specs.Limits.{greatest_quantity}
use Rattle.mz_model.specs.Targets.{held_of, touched_rows}
use Rattle.mz_model.specs.Zones.{is_allowed}
use Rattle.mz_delta.specs.declared.reading.Reading.{Reading}

-- the place of a unit's neighbour
abbrev pub neighbour_at : Parts → ℕ → ℕ → ℕ
neighbour_at parts unit i = (slice_index_or (neighbours_of parts unit) i no_neighbour).unit

-- the unit is one of the problem, its zones are allowed for their units, there is a zone for each neighbour and a
-- total for each touched row, and no total is above 10^18
pub record IsWellFormed (parts : Parts) (reading : Reading) : Type 0 where
  pub unit : reading.unit < unit_count parts
  pub zone : IsTrue (is_allowed parts reading.unit reading.zone)
  pub degree : length reading.neighbours.items ≡ length (neighbours_of parts reading.unit)
  pub neighbours : (i : ℕ) → i < length (neighbours_of parts reading.unit)
      → IsTrue (is_allowed parts (neighbour_at parts reading.unit i) (slice_index reading.neighbours.items i))
  pub touched : length reading.totals.items ≡ length (touched_rows parts reading.unit)
  pub totals : All (λ total. total ≤ greatest_quantity) reading.totals.items

-- the zones of a unit's neighbours in a plan
abbrev pub zones_around : Parts → List ℕ → ℕ → List ℕ
zones_around parts zones unit =
    map (λ (neighbour : Neighbour). slice_index zones neighbour.unit) (neighbours_of parts unit)

-- each item of the reading has its read value in the plan: the zone of a unit, or what is held for a target row
pub record Agrees (parts : Parts) (zones : List ℕ) (reading : Reading) : Type 0 where
  pub unit : reading.zone ≡ slice_index zones reading.unit
  pub neighbours : reading.neighbours.items ≡ zones_around parts zones reading.unit
  pub totals : reading.totals.items ≡ map (held_of parts zones) (touched_rows parts reading.unit)

-- what a plan holds for each target row
unfoldable pub totals_of_plan : Parts → List ℕ → List ℕ
totals_of_plan parts zones = list_below (target_count parts) (held_of parts zones)

-- a reading of the unit at that place, well formed, with which the plan agrees; seat and front are those of the old one
pub record IsReadingOf (parts : Parts) (zones : List ℕ) (place : ℕ) (old new : Reading) : Type 0 where
  pub seat : new.seat ≡ old.seat
  pub front : new.front ≡ old.front
  pub unit : new.unit ≡ place
  pub well_formed : IsWellFormed parts new
  pub agrees : Agrees parts zones new
