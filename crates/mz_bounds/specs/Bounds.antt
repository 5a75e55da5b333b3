-- The file of boundaries: how long the boundary between two units is, and the outer boundary of each.
use Rattle.std.specs.Prelude.{ℕ, ◌*◌, ◌≡◌, ◌<◌, ◌≤◌, ◌&&◌, nat_lt, List, length, Result, Ok}
use Rattle.std.specs.List.{All, AllPairs, list_any}
use Rattle.mz_tables.specs.Table.{Row}
use Rattle.mz_tables.specs.declared.fault.RowFault.{RowFault}
use Rattle.mz_num.specs.Limits.{greatest_quantity, most_boundary_rows}
use Rattle.mz_num.specs.Places.{list_below}
use Rattle.mz_num.specs.Order.{IsBefore}
use Rattle.mz_rows.specs.Pairs.{names, pair_sum, pairs_below}
use Rattle.mz_rows.specs.Rows.{at_most, go_on, items_of, line_behind}
use Rattle.mz_bounds.specs.Pairs.{PairRow, bound_in}
use Rattle.mz_bounds.specs.declared.bounds.Bounds.{Bounds}

-- the rows of the file: at most 1,000,000
unfoldable pub bound_rows : List ℕ → List Row → Result (List PairRow) RowFault
bound_rows units rows = items_of (at_most most_boundary_rows (λ earlier. bound_in units (line_behind earlier))) rows

-- each pair of two units that rows name, the lower one first, with their added length, in order
abbrev pub edges_of : ℕ → List PairRow → List (ℕ × ℕ × ℕ)
edges_of units rows = pairs_below units units (λ low high. nat_lt low high && list_any (names low high) rows)
    (pair_sum rows)

-- the edges, and the outer length of each unit
abbrev pub bounds_from : ℕ → List PairRow → Bounds
bounds_from units rows =
    record { edges = edges_of units rows; outer = list_below units (λ unit. pair_sum rows unit unit) }

-- the boundaries that the rows of a table give
unfoldable pub bounds_of : List ℕ → List Row → Result Bounds RowFault
bounds_of units rows = go_on (bound_rows units rows) (λ read. Ok (bounds_from (length units) read))

-- at most 1,000,000 edges between units, in order, and an outer length for each unit
pub record AreFitBounds (units : ℕ) (bounds : Bounds) : Type 0 where
  pub few : length bounds.edges ≤ most_boundary_rows
  pub of_two : All (λ edge. edge.0 < edge.1) bounds.edges
  pub in_range : All (λ edge. edge.1 < units) bounds.edges
  pub in_order : AllPairs IsBefore bounds.edges
  pub small : All (λ edge. edge.2 ≤ most_boundary_rows * greatest_quantity) bounds.edges
  pub all_units : length bounds.outer ≡ units
  pub small_outer : All (λ number. number ≤ most_boundary_rows * greatest_quantity) bounds.outer
