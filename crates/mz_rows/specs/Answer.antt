-- What a reader answers, beside its definition.
use Rattle.std.specs.Prelude.{◌≡◌, Result, Ok, Err}
use Rattle.mz_tables.specs.declared.fault.RowFault.{RowFault}
use Rattle.mz_tables.specs.declared.fault.RowFault.TheVariants.{TooMany, BadNumber, LeftOut, Unknown, Repeated, LockConflict, NoMemory}

-- the fault is the one of the definition, or want of memory
abbrev pub IsFaultOf : {X : Type 0} → RowFault → Result X RowFault → Type 0
IsFaultOf (TooMany line) made = made ≡ Err (TooMany line)
IsFaultOf (BadNumber line column fault) made = made ≡ Err (BadNumber line column fault)
IsFaultOf (LeftOut line column) made = made ≡ Err (LeftOut line column)
IsFaultOf (Unknown line column) made = made ≡ Err (Unknown line column)
IsFaultOf (Repeated line) made = made ≡ Err (Repeated line)
IsFaultOf (LockConflict line id) made = made ≡ Err (LockConflict line id)
IsFaultOf NoMemory made = Unit {0}

-- the answer, seen by view, is the one of the definition, or want of memory
abbrev pub Gives : {X Y : Type 0} → Result X RowFault → (X → Y) → Result Y RowFault → Type 0
Gives (Ok x) view made = made ≡ Ok (view x)
Gives (Err fault) view made = IsFaultOf fault made

-- the same of an answer as it stands
abbrev pub Answers : {X : Type 0} → Result X RowFault → Result X RowFault → Type 0
Answers answer made = Gives answer (λ x. x) made
