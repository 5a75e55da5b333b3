-- Columns that may be missing: a field that is empty, or whose column isn't there, has a default.
use Rattle.std.specs.Prelude.{ℕ, ◌==◌, List, [], ◌∷◌, Result, Ok, Err, if◌then◌else◌}
use Rattle.mz_num.specs.NumberText.{ten4_of, mic6_of, whole_of}
use Rattle.mz_num.specs.declared.fault.NumFault.{NumFault}
use Rattle.mz_tables.specs.Table.{Row}
use Rattle.mz_tables.specs.declared.fault.RowFault.{RowFault}
use Rattle.mz_tables.specs.declared.fault.RowFault.TheVariants.{LeftOut}
use Rattle.mz_rows.specs.Columns.{number_at, text_in}
use Rattle.mz_rows.specs.Rows.{go_on}

-- what a text reads as, and the default where there is none
abbrev pub or_default : ℕ → (List ℕ → Result ℕ NumFault) → List ℕ → Result ℕ NumFault
or_default default read [] = Ok default
or_default default read (b ∷ text) = read (b ∷ text)

-- the ten-thousandths, the millionths and the whole number of a column that may be missing
abbrev pub ten4_or : ℕ → ℕ → Row → ℕ → Result ℕ RowFault
ten4_or default line row column = number_at line column (or_default default ten4_of (text_in row column))

abbrev pub mic6_or : ℕ → ℕ → Row → ℕ → Result ℕ RowFault
mic6_or default line row column = number_at line column (or_default default mic6_of (text_in row column))

abbrev pub whole_or : ℕ → ℕ → ℕ → Row → ℕ → Result ℕ RowFault
whole_or default most line row column = number_at line column (or_default default (whole_of most) (text_in row column))

-- 0, which is all that is taken of what this project leaves out
abbrev pub only_zero : ℕ → ℕ → ℕ → Result ℕ RowFault
only_zero line column number = (if number == 0 then Ok 0 else Err (LeftOut line column))

-- the 0 of a left-out column
abbrev pub zero_in : ℕ → Row → ℕ → Result ℕ RowFault
zero_in line row column = go_on (ten4_or 0 line row column) (only_zero line column)
