-- The lists that a problem keeps beside its parts.
use Rattle.std.specs.Prelude.{◌≡◌, ℕ, ◌+◌, ◌*◌, ◌/◌, ◌%◌, ◌^◌, ◌<◌, Bool, IsTrue, List, Option, None, Some, map, nat_le}
use Rattle.std.specs.List.{All, filter}
use Rattle.mz_model.specs.declared.neighbour.Neighbour.{Neighbour}
use Rattle.mz_model.specs.declared.parts.Parts.{Parts}
use Rattle.mz_model.specs.declared.parts.Target.{Target}
use Rattle.mz_model.specs.declared.touch.Touch.{Touch}
use Rattle.mz_model.specs.Amounts.{holders_of}
use Rattle.mz_model.specs.Boundary.{neighbours_of}
use Rattle.mz_model.specs.Parts.{unit_count, zone_count, feature_count, fraction_at}
use Rattle.mz_num.specs.Places.{list_below, greatest_below}
use Rattle.mz_num.specs.Limits.{million}
use Rattle.mz_model.specs.Targets.{as_touch, touches_of}
use Rattle.mz_model.specs.Valid.{IsValid}
use Rattle.mz_model.specs.Zones.{allowed_zones, free_units, counts_of}

-- the parts of a feature's amounts that count in the zones stand side by side, at feature * zones + zone
abbrev pub share_at : Parts → ℕ → ℕ
share_at parts place = fraction_at parts (place % zone_count parts) (place / zone_count parts)

unfoldable pub shares_of : Parts → List ℕ
shares_of parts = list_below (zone_count parts * feature_count parts) (share_at parts)

-- a row whose penalties are worked out in 64 bits
abbrev pub IsNarrowRow : Target → Type 0
IsNarrowRow row = 2 * (row.weight * row.level) + row.level < 2 ^ 64

-- the neighbours of each unit
abbrev pub neighbour_lists : Parts → List (List Neighbour)
neighbour_lists parts = list_below (unit_count parts) (neighbours_of parts)

-- the target rows that each unit touches
abbrev pub touch_lists : Parts → List (List Touch)
touch_lists parts = list_below (unit_count parts) (touches_of parts)

-- each list is the one that the parts say, and where the flag is set each row is narrow
pub record AreListsOf
    (parts : Parts) (zones : List (List ℕ)) (free counts : List ℕ) (neighbours : List (List Neighbour))
    (holders : List (List (ℕ × ℕ))) (touches : List (List Touch)) (shares : List ℕ) (narrow : Bool)
    : Type 0 where
  pub valid : IsValid parts
  pub zones_are : zones ≡ list_below (unit_count parts) (allowed_zones parts)
  pub free_are : free ≡ free_units parts
  pub counts_are : counts ≡ counts_of parts
  pub neighbours_are : neighbours ≡ neighbour_lists parts
  pub holders_are : holders ≡ list_below (feature_count parts) (holders_of parts.amounts)
  pub touches_are : touches ≡ touch_lists parts
  pub shares_are : shares ≡ shares_of parts
  pub narrow_rows : IsTrue narrow → All IsNarrowRow parts.targets

-- the greatest part of an amount that counts in some zone, in millionths: of an overall row the greatest fraction,
-- of the row of a zone the whole
abbrev pub greatest_part_in : Parts → ℕ → Option ℕ → ℕ
greatest_part_in parts feature None = greatest_below (zone_count parts) (λ zone. fraction_at parts zone feature)
greatest_part_in parts feature (Some own) = million

abbrev pub greatest_part_of : Parts → Target → ℕ
greatest_part_of parts row = greatest_part_in parts row.feature row.zone

-- of the units that hold a feature those for which that part of the amount rounds to something, each with the row
-- and the amount
abbrev pub touching : ℕ → ℕ → List (ℕ × ℕ) → List (ℕ × Touch)
touching row part holders =
    map (λ (holder : ℕ × ℕ). (holder.0, as_touch row holder.1))
    (filter (λ (holder : ℕ × ℕ). nat_le 500000 (holder.1 * part)) holders)
