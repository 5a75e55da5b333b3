-- The rows of a table, read one after another: the item of each row, or the fault of the first row that has one.
use Rattle.std.specs.Prelude.{ℕ, Bool, nat_lt, List, [], ◌∷◌, ◌++◌, length, map, Result, Ok, Err, if◌then◌else◌}
use Rattle.mz_tables.specs.Ids.{has_id}
use Rattle.mz_tables.specs.Table.{Row, line_of}
use Rattle.mz_tables.specs.declared.fault.RowFault.{RowFault}
use Rattle.mz_tables.specs.declared.fault.RowFault.TheVariants.{TooMany, Repeated}

-- goes on with a value, or stops at its fault
abbrev pub go_on : {X Y : Type 0} → Result X RowFault → (X → Result Y RowFault) → Result Y RowFault
go_on (Ok x) next = next x
go_on (Err fault) next = Err fault

-- what a row reads as behind the items of the rows before it
abbrev pub RowReader : Type 0 → Type 0
RowReader Item = List Item → Row → Result Item RowFault

-- the line of the row behind these
abbrev pub line_behind : {Item : Type 0} → List Item → ℕ
line_behind earlier = line_of (length earlier)

-- the items of rows that stand behind earlier ones
abbrev pub items_behind : {Item : Type 0} → RowReader Item → List Item → List Row → Result (List Item) RowFault
items_behind read earlier [] = Ok earlier
items_behind read earlier (row ∷ rows) =
    go_on (read earlier row) (λ item. items_behind read (earlier ++ item ∷ []) rows)

-- the items of all rows, or the fault of the first row that has one
unfoldable pub items_of : {Item : Type 0} → RowReader Item → List Row → Result (List Item) RowFault
items_of read rows = items_behind read [] rows

-- a row is one too many where so many stand before it; this is tested before the row is read
abbrev pub at_most : {Item : Type 0} → ℕ → RowReader Item → RowReader Item
at_most limit read earlier row =
    (if nat_lt (length earlier) limit then read earlier row else Err (TooMany (line_behind earlier)))

-- the item, unless it is repeated
abbrev pub unless_earlier : {Item : Type 0} → Bool → ℕ → Item → Result Item RowFault
unless_earlier repeated line item = (if repeated then Err (Repeated line) else Ok item)

-- whether an id may be added: it is repeated where it stands among the ids
abbrev pub new_id : List ℕ → ℕ → ℕ → Result (Unit {0}) RowFault
new_id ids id line = unless_earlier (has_id ids id) line tt

-- a row is repeated where an earlier one has its key; this is tested once the row has been read
abbrev pub once : {Item : Type 0} → (Item → ℕ) → RowReader Item → RowReader Item
once key read earlier row =
    go_on (read earlier row) (λ item. unless_earlier (has_id (map key earlier) (key item)) (line_behind earlier) item)
