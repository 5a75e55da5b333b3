-- What the columns of a row read as.
use Rattle.std.specs.Prelude.{ℕ, List, [], get_or, Option, Some, None, Result, Ok, Err}
use Rattle.mz_num.specs.Limits.{greatest_id}
use Rattle.mz_num.specs.NumberText.{ten4_of, mic6_of, whole_of}
use Rattle.mz_num.specs.declared.fault.NumFault.{NumFault}
use Rattle.mz_tables.specs.Ids.{place_of_id}
use Rattle.mz_tables.specs.Table.{Row}
use Rattle.mz_tables.specs.declared.fault.RowFault.{RowFault}
use Rattle.mz_tables.specs.declared.fault.RowFault.TheVariants.{BadNumber, Unknown}
use Rattle.mz_rows.specs.Rows.{go_on}

-- the text of a field, which is empty where the column isn't there
abbrev pub text_of : Option (List ℕ) → List ℕ
text_of None = []
text_of (Some text) = text

abbrev pub text_in : Row → ℕ → List ℕ
text_in row column = text_of (get_or row column None)

-- a number, or its fault at this line and column
abbrev pub number_at : ℕ → ℕ → Result ℕ NumFault → Result ℕ RowFault
number_at line column (Ok number) = Ok number
number_at line column (Err fault) = Err (BadNumber line column fault)

-- the id that a column holds: a whole number of at most 2147483647
abbrev pub id_in : ℕ → Row → ℕ → Result ℕ RowFault
id_in line row column = number_at line column (whole_of greatest_id (text_in row column))

-- the ten-thousandths and the millionths that a column holds
abbrev pub ten4_in : ℕ → Row → ℕ → Result ℕ RowFault
ten4_in line row column = number_at line column (ten4_of (text_in row column))

abbrev pub mic6_in : ℕ → Row → ℕ → Result ℕ RowFault
mic6_in line row column = number_at line column (mic6_of (text_in row column))

-- a place, or an id that isn't there
abbrev pub known_at : ℕ → ℕ → Option ℕ → Result ℕ RowFault
known_at line column None = Err (Unknown line column)
known_at line column (Some place) = Ok place

-- the place, in the file of these ids, of the id that a column holds
abbrev pub place_in : List ℕ → ℕ → Row → ℕ → Result ℕ RowFault
place_in ids line row column = go_on (id_in line row column) (λ id. known_at line column (place_of_id ids id))
