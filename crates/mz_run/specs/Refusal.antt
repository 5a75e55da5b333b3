-- The line that is said of a refusal.
use Rattle.std.specs.Prelude.{ℕ, List, [], ◌++◌, codes, decimal}
use Rattle.mz_params.specs.declared.fault.ParamFault.{ParamFault}
use Rattle.mz_params.specs.declared.fault.ParamFault.TheVariants as param_fault
use Rattle.mz_params.specs.KeyName.{name_of}
use Rattle.mz_num.specs.declared.fault.NumFault.{NumFault}
use Rattle.mz_num.specs.declared.fault.NumFault.TheVariants as num_fault
use Rattle.mz_project.specs.declared.fault.What.{What}
use Rattle.mz_project.specs.declared.fault.What.TheVariants.{Cost, Rate, Boundary, Edge, Amount, Gain, Level}
use Rattle.mz_tables.specs.declared.fault.RowFault.{RowFault}
use Rattle.mz_tables.specs.declared.fault.RowFault.TheVariants as row_fault
use Rattle.mz_tables.specs.declared.fault.TableFault.{TableFault}
use Rattle.mz_tables.specs.declared.fault.TableFault.TheVariants as table_fault
use Rattle.mz_project.specs.declared.fault.Which.{Which}
use Rattle.mz_project.specs.InputFiles.{column_name, word_of_file}
use Rattle.mz_project.specs.declared.fault.InputFault.{InputFault}
use Rattle.mz_project.specs.declared.fault.InputFault.TheVariants.{TooLong, Param, Table, Row, Sum, Weight}
use Rattle.mz_run.specs.declared.status.Status.{Status}
use Rattle.mz_run.specs.declared.status.Status.TheVariants.{Done, Words, Input, ShelfFault, Absent, NoMemory}

-- why a parameter file is refused
abbrev pub param_text : ParamFault → List ℕ
param_text (param_fault.Repeated key) = name_of key ++ codes " repeated"
param_text (param_fault.BadValue key) = name_of key ++ codes " bad value"
param_text (param_fault.OutOfRange key) = name_of key ++ codes " out of range"
param_text (param_fault.LeftOut key) = name_of key ++ codes " left out"
param_text (param_fault.Missing key) = name_of key ++ codes " missing"
param_text param_fault.NoMemory = []

-- why a table is refused
abbrev pub table_text : Which → TableFault → List ℕ
table_text which table_fault.NoHeader = codes "no header"
table_text which (table_fault.ColumnMissing place) = codes "column " ++ column_name which place ++ codes " missing"
table_text which (table_fault.Uneven line) = codes "line " ++ decimal line ++ codes " uneven"
table_text which table_fault.NoMemory = []

-- why a text is no number
abbrev pub number_text : NumFault → List ℕ
number_text num_fault.Empty = codes "empty"
number_text num_fault.NotANumber = codes "not a number"
number_text num_fault.Negative = codes "negative"
number_text num_fault.TooLarge = codes "too large"

-- why a row is refused, from its line on
abbrev pub row_text : Which → RowFault → List ℕ
row_text which (row_fault.TooMany line) = decimal line ++ codes " too many"
row_text which (row_fault.BadNumber line place fault) =
    decimal line ++ codes " bad number in " ++ column_name which place ++ codes ": " ++ number_text fault
row_text which (row_fault.LeftOut line place) = decimal line ++ codes " left out " ++ column_name which place
row_text which (row_fault.Unknown line place) = decimal line ++ codes " unknown " ++ column_name which place
row_text which (row_fault.Repeated line) = decimal line ++ codes " repeated"
row_text which (row_fault.LockConflict line id) =
    decimal line ++ codes " unit " ++ decimal id ++ codes " is locked outside its zones"
row_text which row_fault.NoMemory = []

-- the word of a quantity that has a limit
abbrev pub word_of_quantity : What → List ℕ
word_of_quantity Cost = codes "cost"
word_of_quantity Rate = codes "rate"
word_of_quantity Boundary = codes "boundary"
word_of_quantity Edge = codes "edge"
word_of_quantity Amount = codes "amount"
word_of_quantity Gain = codes "gain"
word_of_quantity Level = codes "level"

abbrev pub input_text : InputFault → List ℕ
input_text (TooLong which) = word_of_file which ++ codes ": too long"
input_text (Param fault) = codes "input: " ++ param_text fault
input_text (Table which fault) = word_of_file which ++ codes ": " ++ table_text which fault
input_text (Row which fault) = word_of_file which ++ codes ": line " ++ row_text which fault
input_text (Sum what) = codes "limit: " ++ word_of_quantity what
input_text (Weight id) = codes "limit: weight of feature " ++ decimal id

-- the exit status
abbrev pub code_of : Status → ℕ
code_of Done = 0
code_of Words = 1
code_of (Input fault) = 2
code_of (ShelfFault name) = 3
code_of (Absent name) = 4
code_of NoMemory = 5

-- the text of a status; there is none of a good end and of want of memory
unfoldable pub text_of_status : Status → List ℕ
text_of_status Done = []
text_of_status Words = codes "words: use [file [workers]] or gen number"
text_of_status (Input fault) = input_text fault
text_of_status (ShelfFault name) = codes "fault: " ++ name
text_of_status (Absent name) = codes "absent: " ++ name
text_of_status NoMemory = []

-- the line that is said
abbrev pub refusal_line : Status → List ℕ
refusal_line status = codes "refused: " ++ text_of_status status ++ codes "\n"
