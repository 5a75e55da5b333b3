-- Rows that name two units, or two zones, in either order.
use Rattle.std.specs.Prelude.{ℕ, List, min, max, Result, Ok}
use Rattle.mz_tables.specs.Table.{Row}
use Rattle.mz_tables.specs.declared.fault.RowFault.{RowFault}
use Rattle.mz_rows.specs.Columns.{mic6_in, place_in, ten4_in}
use Rattle.mz_rows.specs.Rows.{go_on}

-- a row: two places, the lower one first, and a number
abbrev pub PairRow : Type 0
PairRow = ℕ × ℕ × ℕ

-- what a row reads as
abbrev pub pair_in : (ℕ → Row → ℕ → Result ℕ RowFault) → List ℕ → ℕ → Row → Result PairRow RowFault
pair_in number_in ids line row =
    go_on (place_in ids line row 0) (λ first.
    go_on (place_in ids line row 1) (λ second.
    go_on (number_in line row 2) (λ number.
    Ok (min first second, max first second, number))))

-- a row of boundaries has a length in ten-thousandths
abbrev pub bound_in : List ℕ → ℕ → Row → Result PairRow RowFault
bound_in units line row = pair_in ten4_in units line row

-- a row of zone boundary costs has a cost in millionths
abbrev pub zone_bound_in : List ℕ → ℕ → Row → Result PairRow RowFault
zone_bound_in zones line row = pair_in mic6_in zones line row
