-- What makes parts a problem: few enough things, lists that fit one another, and quantities within the limits.
use Rattle.std.specs.Prelude.{◌≡◌, ℕ, ◌*◌, ◌<◌, ◌≤◌, ◌≢◌, None, List, length, slice_index, IsSomeAnd}
use Rattle.std.specs.List.{All, AllPairs}
use Rattle.mz_model.specs.declared.parts.Parts.{Parts}
use Rattle.mz_model.specs.declared.parts.Target.{Target}
use Rattle.mz_model.specs.Amounts.{total_of}
use Rattle.mz_model.specs.Boundary.{IsLength}
use Rattle.mz_model.specs.Parts.{unit_count, zone_count, feature_count, target_count, cost_at, rate_at, target_at}
use Rattle.mz_num.specs.Order.{IsBefore}
use Rattle.mz_num.specs.Places.{sum_below, greatest_below}
use Rattle.mz_num.specs.ZoneSet.{IsZoneSet}
use Rattle.mz_num.specs.Limits.{greatest_quantity, most_amount_rows, most_boundary_rows, most_features, most_target_rows, most_units, most_zones}
use Rattle.mz_model.specs.Targets.{gain_of}

-- the numbers of things
pub record IsSmall (parts : Parts) : Type 0 where
  pub units : unit_count parts ≤ most_units
  pub zones : zone_count parts ≤ most_zones
  pub features : feature_count parts ≤ most_features
  pub rows : target_count parts ≤ most_target_rows
  pub edges : length parts.edges ≤ most_boundary_rows
  pub amounts : length parts.amounts ≤ most_amount_rows

-- no number stands twice in the list
abbrev pub AreDistinct : List ℕ → Type 0
AreDistinct ids = AllPairs (λ a b. a ≢ b) ids

-- a pair of units by place, the lesser one first
pub record IsPair (units : ℕ) (edge : ℕ × ℕ × ℕ) : Type 0 where
  pub first : edge.0 < edge.1
  pub second : edge.1 < units

-- a positive amount of a feature in a unit
pub record IsAmount (units features : ℕ) (row : ℕ × ℕ × ℕ) : Type 0 where
  pub unit : row.0 < units
  pub feature : row.1 < features
  pub positive : 0 < row.2

-- the overall row of a feature
pub record IsOverallRow (feature : ℕ) (row : Target) : Type 0 where
  pub own : row.feature ≡ feature
  pub everywhere : row.zone ≡ None

-- the row of a feature in one zone
pub record IsZoneRow (zones features : ℕ) (row : Target) : Type 0 where
  pub feature : row.feature < features
  pub zone : IsSomeAnd row.zone (λ zone. zone < zones)

-- lengths, places and orders
pub record IsInShape (parts : Parts) : Type 0 where
  pub unit_ids : AreDistinct parts.unit_ids
  pub zone_ids : AreDistinct parts.zone_ids
  pub feature_ids : AreDistinct parts.feature_ids
  pub names : length parts.names ≡ feature_count parts
  pub available : parts.available < zone_count parts
  pub allowed : length parts.allowed ≡ unit_count parts
  pub zone_sets : (unit : ℕ) → unit < unit_count parts → IsZoneSet (zone_count parts) (slice_index parts.allowed unit)
  pub costs : length parts.costs ≡ unit_count parts * zone_count parts
  pub rates : length parts.rates ≡ zone_count parts * zone_count parts
  pub even_rates : (k l : ℕ) → k < zone_count parts → l < zone_count parts → rate_at parts k l ≡ rate_at parts l k
  pub pairs : All (IsPair (unit_count parts)) parts.edges
  pub pairs_in_order : AllPairs IsBefore parts.edges
  pub outer : length parts.outer ≡ unit_count parts
  pub enough_rows : feature_count parts ≤ target_count parts
  pub overall_rows : (row : ℕ) → row < feature_count parts → IsOverallRow row (target_at parts row)
  pub zone_rows : (row : ℕ) → feature_count parts ≤ row → row < target_count parts
      → IsZoneRow (zone_count parts) (feature_count parts) (target_at parts row)
  pub amounts : All (IsAmount (unit_count parts) (feature_count parts)) parts.amounts
  pub amounts_in_order : AllPairs IsBefore parts.amounts
  pub fractions : length parts.fractions ≡ zone_count parts * feature_count parts

-- the quantities that are at most 10^18
pub record IsWithinLimits (parts : Parts) : Type 0 where
  pub cost : sum_below (unit_count parts) (λ unit. greatest_below (zone_count parts) (cost_at parts unit))
      ≤ greatest_quantity
  pub rate : All (λ rate. rate ≤ greatest_quantity) parts.rates
  pub pairs : All (λ edge. IsLength parts edge.2) parts.edges
  pub outer : All (IsLength parts) parts.outer
  pub amount : (feature : ℕ) → feature < feature_count parts → total_of parts.amounts feature ≤ greatest_quantity
  pub gain : (row : ℕ) → row < target_count parts
      → sum_below (unit_count parts) (λ unit. greatest_below (zone_count parts) (gain_of parts row unit))
      ≤ greatest_quantity
  pub level : (row : ℕ) → row < target_count parts → (target_at parts row).level ≤ greatest_quantity
  pub weight : (row : ℕ) → row < target_count parts → (target_at parts row).weight ≤ greatest_quantity

-- parts that are a problem
pub record IsValid (parts : Parts) : Type 0 where
  pub small : IsSmall parts
  pub shape : IsInShape parts
  pub limits : IsWithinLimits parts
