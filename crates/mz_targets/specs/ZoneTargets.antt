-- The file of zone targets: what is to be held of a feature in one zone.
use Rattle.std.specs.Prelude.{ℕ, ◌+◌, ◌*◌, ◌==◌, ◌≤◌, ◌<◌, Bool, false, nat_lt, List, length, Result, Ok, Err, if◌then◌else◌}
use Rattle.std.specs.List.{All}
use Rattle.mz_num.specs.Limits.{greatest_id, greatest_quantity, most_zone_target_rows}
use Rattle.mz_tables.specs.Table.{Row}
use Rattle.mz_tables.specs.declared.fault.RowFault.{RowFault}
use Rattle.mz_tables.specs.declared.fault.RowFault.TheVariants.{LeftOut}
use Rattle.mz_rows.specs.Columns.{mic6_in, place_in, ten4_in}
use Rattle.mz_rows.specs.Rows.{at_most, go_on, items_of, line_behind, once}
use Rattle.mz_targets.specs.Optional.{whole_or}
use Rattle.mz_targets.specs.declared.zone_targets.ZoneTarget.{ZoneTarget}

-- the type that a row has, which is 0 where none stands there
abbrev pub type_in : ℕ → Row → Result ℕ RowFault
type_in line row = whole_or 0 greatest_id line row 3

-- the type of a proportion
abbrev pub is_proportion : Result ℕ RowFault → Bool
is_proportion (Ok kind) = kind == 1
is_proportion (Err fault) = false

-- the target: millionths of the total where it is a proportion, else ten-thousandths
abbrev pub value_in : Bool → ℕ → Row → Result ℕ RowFault
value_in proportion line row = (if proportion then mic6_in line row 2 else ten4_in line row 2)

-- the types 0 and 1 are taken
abbrev pub taken_type : ℕ → ℕ → Result ℕ RowFault
taken_type line kind = (if nat_lt 1 kind then Err (LeftOut line 3) else Ok kind)

-- a row's zone and feature by place, its target and its type; the target's scale follows the type, and its
-- fault comes first
abbrev pub zone_target_in : List ℕ → List ℕ → ℕ → Row → Result ZoneTarget RowFault
zone_target_in zones features line row =
    go_on (place_in zones line row 0) (λ zone.
    go_on (place_in features line row 1) (λ feature.
    go_on (value_in (is_proportion (type_in line row)) line row) (λ value.
    go_on (go_on (type_in line row) (taken_type line)) (λ kind.
    Ok (record { zone = zone; feature = feature; value = value; kind = kind })))))

-- where a pair of a zone and a feature stands; no two pairs have one place
abbrev pub target_place : ℕ → ZoneTarget → ℕ
target_place features row = row.zone * features + row.feature

-- the zone targets that a table gives, at most 90,000 and no pair twice, or its first fault
unfoldable pub zone_targets_of : List ℕ → List ℕ → List Row → Result (List ZoneTarget) RowFault
zone_targets_of zones features rows =
    items_of (at_most most_zone_target_rows
    (once (target_place (length features)) (λ earlier. zone_target_in zones features (line_behind earlier)))) rows

-- places in range, a number within its limit, a type that is taken
pub record IsZoneTarget (zones features : ℕ) (row : ZoneTarget) : Type 0 where
  pub zone_known : row.zone < zones
  pub feature_known : row.feature < features
  pub small : row.value ≤ greatest_quantity
  pub taken : row.kind ≤ 1

pub record AreZoneTargets (zones features : ℕ) (rows : List ZoneTarget) : Type 0 where
  pub few : length rows ≤ most_zone_target_rows
  pub each : All (IsZoneTarget zones features) rows
