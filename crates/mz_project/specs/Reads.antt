-- What is read of the files: their names in order, and what comes of them.
use Rattle.std.specs.Prelude.{◌≡◌, ℕ, nat_lt, if◌then◌else◌, List, [], ◌∷◌, ◌++◌, length, Option, Some, None, Result}
use Rattle.std.specs.Prelude.{Ok, Err}
use Rattle.std.specs.List.{All}
use Rattle.std.specs.FinMap.{get}
use Rattle.mz_num.specs.Limits.{most_file_bytes}
use Rattle.mz_shelf.specs.State.{Files}
use Rattle.mz_params.specs.Folder.{file_in}
use Rattle.mz_params.specs.declared.params.Params.{Params}
use Rattle.mz_tables.specs.declared.fault.RowFault.{RowFault}
use Rattle.mz_tables.specs.declared.fault.TableFault.{TableFault}
use Rattle.mz_tables.specs.declared.wants.Want.{Want}
use Rattle.mz_tables.specs.Table.{Row, read_table}
use Rattle.mz_project.specs.declared.fault.Which.{Which}
use Rattle.mz_project.specs.declared.fault.InputFault.{InputFault}
use Rattle.mz_project.specs.InputFiles.{columns_of, file_named}
use Rattle.mz_project.specs.declared.fault.InputFault.TheVariants.{TooLong, Table as OfTable, Row as OfRow}

-- a file that isn't there, the first fault, or what was wanted
pub data Outcome (X : Type 0) : Type 0 where
  Missing : List ℕ → Outcome X
  Refused : InputFault → Outcome X
  Given : X → Outcome X

pub record Reads (X : Type 0) : Type 0 where
  pub names : List (List ℕ)
  pub outcome : Outcome X

-- goes on with what was given, or ends there
abbrev pub read_behind : {X Y : Type 0} → List (List ℕ) → Outcome X → (X → Reads Y) → Reads Y
read_behind names (Missing name) next = record { names = names; outcome = Missing name }
read_behind names (Refused fault) next = record { names = names; outcome = Refused fault }
read_behind names (Given x) next = record { names = names ++ (next x).names; outcome = (next x).outcome }

abbrev pub then_read : {X Y : Type 0} → Reads X → (X → Reads Y) → Reads Y
then_read reads next = read_behind reads.names reads.outcome next

-- without a file: what is given, or a fault
abbrev pub outcome_of : {X : Type 0} → Result X InputFault → Outcome X
outcome_of (Ok x) = Given x
outcome_of (Err fault) = Refused fault

abbrev pub taken : {X : Type 0} → Result X InputFault → Reads X
taken result = record { names = []; outcome = outcome_of result }

-- the bytes of a file that may be too long
abbrev pub bytes_of : List ℕ → Which → Option (List ℕ) → Outcome (List ℕ)
bytes_of name which None = Missing name
bytes_of name which (Some bytes) =
    if nat_lt most_file_bytes (length bytes) then Refused (TooLong which) else Given bytes

abbrev pub file_read : Files → List ℕ → Which → Reads (List ℕ)
file_read files name which = record { names = name ∷ []; outcome = bytes_of name which (get files name) }

-- the fault of a table, or of its rows, is one of the file
abbrev pub of_table : {X : Type 0} → Which → Result X TableFault → Result X InputFault
of_table which (Ok x) = Ok x
of_table which (Err fault) = Err (OfTable which fault)

abbrev pub of_rows : {X : Type 0} → Which → Result X RowFault → Result X InputFault
of_rows which (Ok x) = Ok x
of_rows which (Err fault) = Err (OfRow which fault)

-- the wanted columns of a file
abbrev pub table_read : Files → List ℕ → Which → List Want → Reads (List Row)
table_read files name which wants =
    then_read (file_read files name which) (λ bytes. taken (of_table which (read_table bytes wants)))

-- what a reader makes of the rows of the file of that name
abbrev pub rows_read : {X : Type 0}
    → Files → List ℕ → List ℕ → Which → List Want → (List Row → Result X RowFault) → Reads X
rows_read files folder name which wants reader =
    then_read (table_read files (file_in folder name) which wants) (λ rows. taken (of_rows which (reader rows)))

-- the table of a file that may be given
abbrev pub table_by_name : Files → List ℕ → Option (List ℕ) → Which → Reads (Option (List Row))
table_by_name files folder None which = record { names = []; outcome = Given None }
table_by_name files folder (Some name) which =
    then_read (table_read files (file_in folder name) which (columns_of which)) (λ rows. taken (Ok (Some rows)))

abbrev pub table_given : Params → Which → Files → Reads (Option (List Row))
table_given params which files = table_by_name files params.input_dir (file_named params which) which

-- what a reader makes of the table; the default without one
abbrev pub made_or : {X : Type 0} → Which → X → (List Row → Result X RowFault) → Option (List Row) → Result X InputFault
made_or which default reader None = Ok default
made_or which default reader (Some rows) = of_rows which (reader rows)

abbrev pub rows_or_default : {X : Type 0} → Params → Which → X → (List Row → Result X RowFault) → Files → Reads X
rows_or_default params which default reader files =
    then_read (table_given params which files) (λ table. taken (made_or which default reader table))

-- each row of a table has so many fields
abbrev pub IsWide : ℕ → Option (List Row) → Type 0
IsWide width None = Unit {0}
IsWide width (Some rows) = All (λ row. length row ≡ width) rows
