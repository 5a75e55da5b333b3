-- What the bytes of a table read as, in this project's profile.
use Rattle.std.specs.Prelude.{ℕ, ◌+◌, ◌≡◌, ◌==◌, Bool, not, List, [], ◌∷◌, length, map, position, get_or, Option, Some, None, Result, Ok, Err}
use Rattle.csv.specs.Reading.{default_config, records, strip_bom}
use Rattle.csv.specs.declared.parser.Config.{Config}
use Rattle.mz_num.specs.Blank.{trimmed}
use Rattle.mz_tables.specs.Delimiter.{delimiter_of}
use Rattle.mz_tables.specs.Header.{columns_of, is_missing}
use Rattle.mz_tables.specs.declared.fault.TableFault.{TableFault}
use Rattle.mz_tables.specs.declared.fault.TableFault.TheVariants.{NoHeader, ColumnMissing, Uneven, NoMemory}
use Rattle.mz_tables.specs.declared.wants.Want.{Want}

-- a row: for each want its field, or none where the column isn't there
abbrev pub Row : Type 0
Row = List (Option (List ℕ))

-- the field of a record in a column, without the blanks at its ends
abbrev pub cell_of : List (List ℕ) → Option ℕ → Option (List ℕ)
cell_of fields None = None
cell_of fields (Some place) = Some (trimmed (get_or fields place []))

-- the row of a record in these columns
abbrev pub row_of : List (Option ℕ) → List (List ℕ) → Row
row_of columns fields = map (cell_of fields) columns

-- another number of fields than the header has
abbrev pub is_uneven : ℕ → List (List ℕ) → Bool
is_uneven width fields = not (length fields == width)

-- the line of a row: lines count records, the header being 1, and rows count from 0
abbrev pub line_of : ℕ → ℕ
line_of row = row + 2

-- the rows, unless an uneven record stands at a place among the data records
abbrev pub unless_uneven : Option ℕ → List Row → Result (List Row) TableFault
unless_uneven None rows = Ok rows
unless_uneven (Some place) rows = Err (Uneven (line_of place))

-- the rows of the data records in these columns, or the first uneven record
unfoldable pub table_rows : ℕ → List (Option ℕ) → List (List (List ℕ)) → Result (List Row) TableFault
table_rows width columns data_records = unless_uneven (position (is_uneven width) data_records)
    (map (row_of columns) data_records)

-- the answer, unless a needed column is missing
abbrev pub unless_missing : Option ℕ → Result (List Row) TableFault → Result (List Row) TableFault
unless_missing None answer = answer
unless_missing (Some place) answer = Err (ColumnMissing place)

-- what records read as: no record, the first needed column that isn't there, the first uneven record, or the rows
unfoldable pub made_of : List (List (List ℕ)) → List Want → Result (List Row) TableFault
made_of [] wants = Err NoHeader
made_of (header ∷ data_records) wants = unless_missing (position (is_missing header) wants)
    (table_rows (length header) (columns_of header wants) data_records)

-- how `csv` is to read these bytes: its defaults with the delimiter of the table
unfoldable pub table_config : List ℕ → Config
table_config bytes = record default_config { delimiter = delimiter_of bytes }

-- the table of these bytes, or its first fault
unfoldable pub read_table : List ℕ → List Want → Result (List Row) TableFault
read_table bytes wants = made_of (records (table_config bytes) (strip_bom bytes)) wants

-- the answer is the one of the definition, or want of memory
abbrev pub Answers : Result (List Row) TableFault → Result (List Row) TableFault → Type 0
Answers (Ok rows) made = made ≡ Ok rows
Answers (Err NoHeader) made = made ≡ Err NoHeader
Answers (Err (ColumnMissing place)) made = made ≡ Err (ColumnMissing place)
Answers (Err (Uneven line)) made = made ≡ Err (Uneven line)
Answers (Err NoMemory) made = Unit {0}

-- the field of a row, by the place of its want
abbrev pub field_in : List Row → ℕ → ℕ → Option (List ℕ)
field_in rows row want = get_or (get_or rows row []) want None
