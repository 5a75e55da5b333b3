-- Files of ids with names: the zones and the costs.
use Rattle.std.specs.Prelude.{ℕ, ◌≡◌, ◌≢◌, ◌≤◌, List, length, map, Result, Ok}
use Rattle.std.specs.List.{All, AllPairs}
use Rattle.mz_num.specs.Limits.{greatest_id, most_zones}
use Rattle.mz_tables.specs.Table.{Row}
use Rattle.mz_tables.specs.declared.fault.RowFault.{RowFault}
use Rattle.mz_rows.specs.Columns.{id_in, text_in}
use Rattle.mz_rows.specs.Rows.{at_most, go_on, items_of, line_behind, once}
use Rattle.mz_units.specs.declared.named.CostList.{CostList}
use Rattle.mz_units.specs.declared.named.ZoneList.{ZoneList}

-- a row: an id and a name
abbrev pub Named : Type 0
Named = ℕ × List ℕ

-- ids, and a name for each
abbrev pub NamedList : Type 0
NamedList = List ℕ × List (List ℕ)

-- a row's id and its name as it stands, which is empty where no column has it
abbrev pub named_in : ℕ → Row → Result Named RowFault
named_in line row = go_on (id_in line row 0) (λ id. Ok (id, text_in row 1))

-- the rows of such a file: at most 60, and no id twice
unfoldable pub named_rows : List Row → Result (List Named) RowFault
named_rows rows = items_of
    (at_most most_zones (once (λ named. named.0) (λ earlier. named_in (line_behind earlier)))) rows

abbrev pub ids_of : List Named → List ℕ
ids_of named = map (λ row. row.0) named

abbrev pub names_of : List Named → List (List ℕ)
names_of named = map (λ row. row.1) named

-- the ids and names that a table gives, or its first fault
unfoldable pub named_list_of : List Row → Result NamedList RowFault
named_list_of rows = go_on (named_rows rows) (λ named. Ok (ids_of named, names_of named))

-- the same as zones
unfoldable pub zones_of : List Row → Result ZoneList RowFault
zones_of rows = go_on (named_list_of rows) (λ list. Ok (record { ids = list.0; names = list.1 }))

-- and as costs
unfoldable pub costs_of : List Row → Result CostList RowFault
costs_of rows = go_on (named_list_of rows) (λ list. Ok (record { ids = list.0; names = list.1 }))

-- distinct ids in their range, each with a name
pub record IsNamedList (ids : List ℕ) (names : List (List ℕ)) : Type 0 where
  pub few : length ids ≤ most_zones
  pub distinct : AllPairs (λ a b. a ≢ b) ids
  pub in_range : All (λ id. id ≤ greatest_id) ids
  pub all_named : length names ≡ length ids
