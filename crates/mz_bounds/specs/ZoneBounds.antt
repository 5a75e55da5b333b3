-- The file of zone boundary costs: what a boundary between two zones costs.
use Rattle.std.specs.Prelude.{ℕ, ◌+◌, ◌*◌, ◌/◌, ◌%◌, ◌≡◌, ◌<◌, ◌≤◌, ◌==◌, Bool, false, not, List, length, min, max, slice_index, Option, Some, None, option_map, unwrap_or, Result, Ok, Err, if◌then◌else◌}
use Rattle.std.specs.List.{All, find}
use Rattle.mz_tables.specs.Table.{Row}
use Rattle.mz_tables.specs.declared.fault.RowFault.{RowFault}
use Rattle.mz_tables.specs.declared.fault.RowFault.TheVariants.{Repeated}
use Rattle.mz_num.specs.Limits.{greatest_quantity}
use Rattle.mz_num.specs.Places.{list_below}
use Rattle.mz_rows.specs.Rows.{RowReader, go_on, items_of, line_behind}
use Rattle.mz_rows.specs.Pairs.{names}
use Rattle.mz_bounds.specs.Pairs.{PairRow, zone_bound_in}

-- the cost of the first row that names two zones, which may be one zone twice, in either order
abbrev pub cost_at : List PairRow → ℕ → ℕ → Option ℕ
cost_at rows first second = option_map (λ row. row.2) (find (names (min first second) (max first second)) rows)

-- there is a cost, and it is another one
abbrev pub is_another : Option ℕ → ℕ → Bool
is_another None cost = false
is_another (Some other) cost = not (other == cost)

-- the row, unless its two zones have another cost
abbrev pub unless_another : Bool → ℕ → PairRow → Result PairRow RowFault
unless_another another line row = (if another then Err (Repeated line) else Ok row)

-- a row may repeat an earlier one's cost, and no other; this is tested once the row has been read
abbrev pub settled : RowReader PairRow → RowReader PairRow
settled read earlier row =
    go_on (read earlier row)
    (λ item. unless_another (is_another (cost_at earlier item.0 item.1) item.2) (line_behind earlier) item)

-- the rows of the file
unfoldable pub zone_bound_rows : List ℕ → List Row → Result (List PairRow) RowFault
zone_bound_rows zones rows = items_of (settled (λ earlier. zone_bound_in zones (line_behind earlier))) rows

-- the cost of each two zones, in both orders, and 0 for what isn't listed
abbrev pub zone_costs : ℕ → List PairRow → List ℕ
zone_costs zones rows = list_below (zones * zones) (λ place. unwrap_or (cost_at rows (place / zones) (place % zones)) 0)

-- the costs that the rows of a table give
unfoldable pub zone_bounds_of : List ℕ → List Row → Result (List ℕ) RowFault
zone_bounds_of zones rows = go_on (zone_bound_rows zones rows) (λ read. Ok (zone_costs (length zones) read))

-- the same number for two zones in both orders
abbrev pub IsEven : ℕ → List ℕ → Type 0
IsEven zones numbers = (first second : ℕ) → first < zones → second < zones
    → slice_index numbers (first * zones + second) ≡ slice_index numbers (second * zones + first)

-- a number of millionths for each two zones, the same in both orders
pub record AreZoneBounds (zones : ℕ) (costs : List ℕ) : Type 0 where
  pub all_pairs : length costs ≡ zones * zones
  pub small : All (λ cost. cost ≤ greatest_quantity) costs
  pub even : IsEven zones costs
