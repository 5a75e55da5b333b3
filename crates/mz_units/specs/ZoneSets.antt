-- The file of zone sets: which zones a unit is limited to. A set is a number whose bits are the zones' places.
use Rattle.std.specs.Prelude.{ℕ, ◌-◌, ◌^◌, ◌==◌, bit_or, List, [], ◌∷◌, length, Result, Ok, if◌then◌else◌}
use Rattle.std.specs.List.{list_any}
use Rattle.mz_num.specs.Limits.{most_zone_set_rows}
use Rattle.mz_tables.specs.Table.{Row}
use Rattle.mz_tables.specs.declared.fault.RowFault.{RowFault}
use Rattle.mz_rows.specs.Columns.{place_in}
use Rattle.mz_num.specs.Places.{list_below}
use Rattle.mz_rows.specs.Rows.{at_most, go_on, items_of, line_behind}

-- a unit and a zone, by place
abbrev pub UnitZone : Type 0
UnitZone = ℕ × ℕ

-- a row's unit and zone
abbrev pub unit_zone_in : List ℕ → List ℕ → ℕ → Row → Result UnitZone RowFault
unit_zone_in units zones line row =
    go_on (place_in units line row 0) (λ unit.
    go_on (place_in zones line row 1) (λ zone.
    Ok (unit, zone)))

-- the rows of the file: at most 6,000,000
unfoldable pub zone_set_rows : List ℕ → List ℕ → List Row → Result (List UnitZone) RowFault
zone_set_rows units zones rows =
    items_of (at_most most_zone_set_rows (λ earlier. unit_zone_in units zones (line_behind earlier))) rows

-- the set of the zones that rows list for a unit
abbrev pub listed_zones : List UnitZone → ℕ → ℕ
listed_zones [] unit = 0
listed_zones (row ∷ rows) unit =
    (if row.0 == unit then bit_or (2 ^ row.1) (listed_zones rows unit) else listed_zones rows unit)

-- the zones of a unit: the listed ones, and every zone where no row lists one
abbrev pub zone_set : ℕ → List UnitZone → ℕ → ℕ
zone_set zones rows unit = (if list_any (λ row. row.0 == unit) rows then listed_zones rows unit else 2 ^ zones - 1)

abbrev pub zone_sets : ℕ → ℕ → List UnitZone → List ℕ
zone_sets units zones rows = list_below units (zone_set zones rows)

-- the zone set of each unit that a table gives, or its first fault
unfoldable pub zone_sets_of : List ℕ → List ℕ → List Row → Result (List ℕ) RowFault
zone_sets_of units zones rows =
    go_on (zone_set_rows units zones rows) (λ listed. Ok (zone_sets (length units) (length zones) listed))
