-- A file that lists a number for pairs of a zone and another thing.
use Rattle.std.specs.Prelude.{ℕ, ◌+◌, ◌*◌, ◌≡◌, ◌≤◌, List, length, Result, Ok}
use Rattle.std.specs.List.{All}
use Rattle.mz_num.specs.Limits.{greatest_quantity}
use Rattle.mz_tables.specs.Table.{Row}
use Rattle.mz_tables.specs.declared.fault.RowFault.{RowFault}
use Rattle.mz_rows.specs.Columns.{mic6_in, place_in}
use Rattle.mz_rows.specs.Keyed.{values_below}
use Rattle.mz_rows.specs.Rows.{go_on, items_of, line_behind, once}

-- a row's zone and other thing by place, and the number in millionths
abbrev pub zone_number_in : List ℕ → List ℕ → ℕ → Row → Result (ℕ × ℕ × ℕ) RowFault
zone_number_in zones things line row =
    go_on (place_in zones line row 0) (λ zone.
    go_on (place_in things line row 1) (λ thing.
    go_on (mic6_in line row 2) (λ number.
    Ok (zone, thing, number))))

-- where a pair of a zone and a thing stands; no two pairs have one place
abbrev pub zone_number_place : ℕ → ℕ × ℕ × ℕ → ℕ
zone_number_place things row = row.0 * things + row.1

-- the rows of the file: no pair twice
unfoldable pub zone_numbers : List ℕ → List ℕ → List Row → Result (List (ℕ × ℕ × ℕ)) RowFault
zone_numbers zones things rows =
    items_of (once (zone_number_place (length things))
    (λ earlier. zone_number_in zones things (line_behind earlier))) rows

-- the number of each pair at its place, and 0 for one that isn't listed
abbrev pub numbers_by_zone : ℕ → ℕ → List (ℕ × ℕ × ℕ) → List ℕ
numbers_by_zone zones things listed = values_below (zones * things) (zone_number_place things) (λ row. row.2)
    (λ place. 0) listed

-- the numbers that a table gives, or its first fault
unfoldable pub by_zone_of : List ℕ → List ℕ → List Row → Result (List ℕ) RowFault
by_zone_of zones things rows =
    go_on (zone_numbers zones things rows) (λ listed. Ok (numbers_by_zone (length zones) (length things) listed))

-- a number of millionths for each pair
pub record AreByZone (zones things : ℕ) (numbers : List ℕ) : Type 0 where
  pub all_pairs : length numbers ≡ zones * things
  pub small : All (λ number. number ≤ greatest_quantity) numbers
