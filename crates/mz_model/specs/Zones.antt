-- Allowed zones of a unit, free units, and the move of a draw.
use Rattle.std.specs.Prelude.{ℕ, ◌+◌, ◌%◌, Bool, List, length, map, slice_index, ◌==◌, nat_lt}
use Rattle.std.specs.List.{position_or_len}
use Rattle.std.specs.Int.{bit_at}
use Rattle.mz_model.specs.declared.parts.Parts.{Parts}
use Rattle.mz_model.specs.Parts.{unit_count, zone_count}
use Rattle.mz_num.specs.Places.{places_below}

-- whether a unit may have a zone: the zone's bit is set in the unit's set
abbrev pub is_allowed : Parts → ℕ → ℕ → Bool
is_allowed parts unit zone = bit_at (slice_index parts.allowed unit) zone == 1

-- the places of a unit's allowed zones, in rising order
unfoldable pub allowed_zones : Parts → ℕ → List ℕ
allowed_zones parts unit = places_below (zone_count parts) (is_allowed parts unit)

-- a unit is free where it has two allowed zones or more
unfoldable pub is_free : Parts → ℕ → Bool
is_free parts unit = nat_lt 1 (length (allowed_zones parts unit))

-- the places of the free units, in order
unfoldable pub free_units : Parts → List ℕ
free_units parts = places_below (unit_count parts) (is_free parts)

-- the number of allowed zones of each free unit
unfoldable pub counts_of : Parts → List ℕ
counts_of parts = map (λ unit. length (allowed_zones parts unit)) (free_units parts)

-- the zone that stands shift places on from a zone in a list of zones, going round
abbrev pub round_from : List ℕ → ℕ → ℕ → ℕ
round_from zones zone shift = slice_index zones ((position_or_len (λ k. k == zone) zones + shift) % length zones)

-- the move of a draw: from a unit's zone shift places on in its allowed zones, going round
unfoldable pub step_of : Parts → ℕ → ℕ → ℕ → ℕ
step_of parts unit zone shift = round_from (allowed_zones parts unit) zone shift
