-- The file of amounts: how much of a feature a unit has.
use Rattle.std.specs.Prelude.{ℕ, ◌*◌, ◌^◌, ◌≤◌, ◌<◌, nat_lt, List, length, Result, Ok}
use Rattle.std.specs.List.{All, AllPairs}
use Rattle.mz_num.specs.Limits.{greatest_quantity, most_amount_rows}
use Rattle.mz_num.specs.Order.{IsBefore}
use Rattle.mz_tables.specs.Table.{Row}
use Rattle.mz_tables.specs.declared.fault.RowFault.{RowFault}
use Rattle.mz_rows.specs.Columns.{place_in, ten4_in}
use Rattle.mz_rows.specs.Pairs.{pair_sum, pairs_below}
use Rattle.mz_rows.specs.Rows.{at_most, go_on, items_of, line_behind}

-- a row: a unit and a feature by place, and the amount in ten-thousandths
abbrev pub Amount : Type 0
Amount = ℕ × ℕ × ℕ

-- what a row reads as; the feature's column stands first
abbrev pub amount_in : List ℕ → List ℕ → ℕ → Row → Result Amount RowFault
amount_in units features line row =
    go_on (place_in features line row 0) (λ feature.
    go_on (place_in units line row 1) (λ unit.
    go_on (ten4_in line row 2) (λ amount.
    Ok (unit, feature, amount))))

-- the rows of the file: at most 5,000,000
unfoldable pub amount_rows : List ℕ → List ℕ → List Row → Result (List Amount) RowFault
amount_rows units features rows =
    items_of (at_most most_amount_rows (λ earlier. amount_in units features (line_behind earlier))) rows

-- the positive sum of the rows of each pair of a unit and a feature, in order
abbrev pub sums_of : ℕ → ℕ → List Amount → List (ℕ × ℕ × ℕ)
sums_of units features rows = pairs_below units features (λ unit feature. nat_lt 0 (pair_sum rows unit feature))
    (pair_sum rows)

-- the sums of the rows that a table gives
unfoldable pub amounts_of : List ℕ → List ℕ → List Row → Result (List (ℕ × ℕ × ℕ)) RowFault
amounts_of units features rows =
    go_on (amount_rows units features rows) (λ read. Ok (sums_of (length units) (length features) read))

-- places in range and a number within its limit; a place is below 2 ^ 32
pub record IsAmountRow (units features : ℕ) (row : ℕ × ℕ × ℕ) : Type 0 where
  pub unit_known : row.0 < units
  pub feature_known : row.1 < features
  pub narrow : row.1 < 2 ^ 32
  pub small : row.2 ≤ greatest_quantity

-- a positive amount of a feature in a unit
pub record IsAmount (units features most : ℕ) (row : ℕ × ℕ × ℕ) : Type 0 where
  pub unit : row.0 < units
  pub feature : row.1 < features
  pub positive : 0 < row.2
  pub small : row.2 ≤ most

-- at most 5,000,000 of them, in order
pub record AreAmounts (units features : ℕ) (amounts : List (ℕ × ℕ × ℕ)) : Type 0 where
  pub few : length amounts ≤ most_amount_rows
  pub in_order : AllPairs IsBefore amounts
  pub each : All (IsAmount units features (most_amount_rows * greatest_quantity)) amounts
