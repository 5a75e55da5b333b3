-- The columns that a table is read for.
use Rattle.std.specs.Prelude.{ℕ, Bool, List}
use Rattle.mz_tables.specs.declared.column.Column.{Column}
use Rattle.mz_tables.specs.declared.wants.Want.{Want}

-- a column by its name and its other name, which is none where it is empty, and whether the table is refused without it
abbrev pub want : List ℕ → List ℕ → Bool → Want
want name other needed = record { name = name; other = other; needed = needed }

-- what is wanted for a column of a file
abbrev pub want_of : Column → Want
want_of column = want column.name.now column.other.now column.needed
