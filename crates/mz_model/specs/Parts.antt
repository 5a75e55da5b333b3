-- The parts of a problem by place: how many there are of each kind, and what stands at a place.
use Rattle.std.specs.Prelude.{ℕ, ◌+◌, ◌*◌, length, slice_index, slice_index_or, None}
use Rattle.mz_model.specs.declared.parts.Parts.{Parts}
use Rattle.mz_model.specs.declared.parts.Target.{Target}

abbrev pub unit_count : Parts → ℕ
unit_count parts = length parts.unit_ids

abbrev pub zone_count : Parts → ℕ
zone_count parts = length parts.zone_ids

abbrev pub feature_count : Parts → ℕ
feature_count parts = length parts.feature_ids

abbrev pub target_count : Parts → ℕ
target_count parts = length parts.targets

-- the cost term of a unit in a zone
abbrev pub cost_at : Parts → ℕ → ℕ → ℕ
cost_at parts unit zone = slice_index parts.costs (unit * zone_count parts + zone)

-- the rate of a boundary between two zones
abbrev pub rate_at : Parts → ℕ → ℕ → ℕ
rate_at parts k l = slice_index parts.rates (k * zone_count parts + l)

-- the length of a unit's boundary that no unit of the problem shares
abbrev pub outer_at : Parts → ℕ → ℕ
outer_at parts unit = slice_index parts.outer unit

-- what part of an amount of the feature counts in the zone, in millionths
abbrev pub fraction_at : Parts → ℕ → ℕ → ℕ
fraction_at parts zone feature = slice_index parts.fractions (zone * feature_count parts + feature)

-- a row that asks for nothing, which stands for a row past the last
abbrev pub no_target : Target
no_target = record { feature = 0; zone = None; level = 0; weight = 0 }

abbrev pub target_at : Parts → ℕ → Target
target_at parts row = slice_index_or parts.targets row no_target
