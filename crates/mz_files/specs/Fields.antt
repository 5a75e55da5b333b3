-- Fields behind the first of a line, each with the comma before it.
use Rattle.std.specs.Prelude.{ℕ, List, ◌++◌, codes, decimal}
use Rattle.csv.specs.Writing.{default_writer, field_text}
use Rattle.mz_num.specs.Decimal.{ten4_text}

abbrev pub number_field : ℕ → List ℕ
number_field number = codes "," ++ decimal number

-- a number of ten-thousandths
abbrev pub amount_field : ℕ → List ℕ
amount_field amount = codes "," ++ ten4_text amount

-- a name as the writer of csv writes a field: in quotes where it holds a comma, a quote or the end of a line
abbrev pub name_field : List ℕ → List ℕ
name_field name = codes "," ++ field_text default_writer name
