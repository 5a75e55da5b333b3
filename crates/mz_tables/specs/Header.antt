-- Where the columns that are wanted stand in a header.
use Rattle.std.specs.Prelude.{ℕ, Bool, ◌&&◌, List, [], ◌∷◌, map, position, Option, None, is_none}
use Rattle.std.specs.Option.{option_or}
use Rattle.std.specs.Str.{str_eq_ignore_ascii_case}
use Rattle.mz_num.specs.Blank.{trimmed}
use Rattle.mz_tables.specs.declared.wants.Want.{Want}

-- the cell is this name, without the blanks at its ends and without regard to ASCII case
unfoldable pub is_named : List ℕ → List ℕ → Bool
is_named name cell = str_eq_ignore_ascii_case (trimmed cell) name

-- the place of the first cell that has the name
abbrev pub place_of_name : List ℕ → List (List ℕ) → Option ℕ
place_of_name name header = position (is_named name) header

-- the same of another name, which is none where it is empty
abbrev pub place_of_other : List ℕ → List (List ℕ) → Option ℕ
place_of_other [] header = None
place_of_other (byte ∷ name) header = place_of_name (byte ∷ name) header

-- the column of a want: the first cell that has its name, or if there is none, its other name
unfoldable pub column_of : List (List ℕ) → Want → Option ℕ
column_of header want = option_or (place_of_name want.name header) (place_of_other want.other header)

-- the columns of wants
abbrev pub columns_of : List (List ℕ) → List Want → List (Option ℕ)
columns_of header wants = map (column_of header) wants

-- a column that is needed and isn't there
abbrev pub is_missing : List (List ℕ) → Want → Bool
is_missing header want = want.needed && is_none (column_of header want)
