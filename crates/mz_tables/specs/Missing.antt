-- How a missing column is told.
use Rattle.std.specs.Prelude.{ℕ, ◌≡◌, Option, Some}
use Rattle.mz_tables.specs.declared.fault.TableFault.{TableFault}
use Rattle.mz_tables.specs.declared.fault.TableFault.TheVariants.{NoHeader, ColumnMissing, Uneven, NoMemory}

-- the fault is the column at this place, or want of memory
abbrev pub IsMissingFault : TableFault → Option ℕ → Type 0
IsMissingFault NoHeader place = ⊥
IsMissingFault (ColumnMissing k) place = place ≡ Some k
IsMissingFault (Uneven line) place = ⊥
IsMissingFault NoMemory place = Unit {0}
