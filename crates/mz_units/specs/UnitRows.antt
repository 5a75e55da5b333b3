-- The file of planning units and their costs.
use Rattle.std.specs.Prelude.{ℕ, ◌+◌, ◌*◌, ◌≡◌, ◌≢◌, ◌≤◌, List, [], ◌∷◌, drop, length, map, Option, Result, Ok}
use Rattle.std.specs.List.{All, AllPairs, flat_map}
use Rattle.mz_num.specs.Limits.{greatest_id, greatest_quantity, most_units}
use Rattle.mz_num.specs.NumberText.{ten4_of}
use Rattle.mz_tables.specs.Table.{Row}
use Rattle.mz_tables.specs.declared.fault.RowFault.{RowFault}
use Rattle.mz_rows.specs.Columns.{id_in, number_at, text_of}
use Rattle.mz_rows.specs.Rows.{at_most, go_on, items_of, line_behind, once}
use Rattle.mz_units.specs.declared.units.UnitList.{UnitList}

-- a row: a unit's id and its costs
abbrev pub UnitRow : Type 0
UnitRow = ℕ × List ℕ

-- the costs that fields hold, the first of which stands in this column
abbrev pub costs_in : ℕ → ℕ → List (Option (List ℕ)) → Result (List ℕ) RowFault
costs_in line column [] = Ok []
costs_in line column (field ∷ fields) =
    go_on (number_at line column (ten4_of (text_of field)))
    (λ cost. go_on (costs_in line (column + 1) fields) (λ costs. Ok (cost ∷ costs)))

-- a unit's id and, in the columns behind it, its costs
abbrev pub unit_in : ℕ → Row → Result UnitRow RowFault
unit_in line row = go_on (id_in line row 0) (λ id. go_on (costs_in line 1 (drop 1 row)) (λ costs. Ok (id, costs)))

-- the rows of the file: at most 100,000, and no id twice
unfoldable pub unit_rows : List Row → Result (List UnitRow) RowFault
unit_rows rows = items_of (at_most most_units (once (λ unit. unit.0) (λ earlier. unit_in (line_behind earlier)))) rows

-- the list of units, with the costs of all one after another
abbrev pub unit_list : List UnitRow → UnitList
unit_list units = record { ids = map (λ unit. unit.0) units; costs = flat_map (λ unit. unit.1) units }

-- the units that a table gives, or its first fault
unfoldable pub units_of : List Row → Result UnitList RowFault
units_of rows = go_on (unit_rows rows) (λ units. Ok (unit_list units))

-- distinct ids in their range, with so many costs each, at `unit * costs + cost`
pub record IsUnitList (costs : ℕ) (units : UnitList) : Type 0 where
  pub few : length units.ids ≤ most_units
  pub distinct : AllPairs (λ a b. a ≢ b) units.ids
  pub in_range : All (λ id. id ≤ greatest_id) units.ids
  pub all_costs : length units.costs ≡ length units.ids * costs
  pub small : All (λ cost. cost ≤ greatest_quantity) units.costs
