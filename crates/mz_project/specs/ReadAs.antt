-- What a reading of files from a shelf answers, and what it leaves.
use Rattle.std.specs.Prelude.{◌≡◌, ℕ, List, ◌∷◌, ◌++◌, Result, Ok, Err, IfSome}
use Rattle.mz_params.specs.declared.fault.ParamFault.{ParamFault}
use Rattle.mz_params.specs.declared.fault.ParamFault.TheVariants.{NoMemory as NoMemoryForParams}
use Rattle.mz_shelf.specs.State.{State, Files, OneMiss, OneOver, reads_after}
use Rattle.mz_shelf.specs.Shelf.{ReadFailed}
use Rattle.mz_tables.specs.declared.fault.RowFault.{RowFault}
use Rattle.mz_tables.specs.declared.fault.RowFault.TheVariants.{NoMemory as NoMemoryForRows}
use Rattle.mz_tables.specs.declared.fault.TableFault.{TableFault}
use Rattle.mz_tables.specs.declared.fault.TableFault.TheVariants.{NoMemory as NoMemoryForTable}
use Rattle.mz_project.specs.declared.fault.Which.{Which}
use Rattle.mz_project.specs.declared.fault.InputFault.{InputFault}
use Rattle.mz_project.specs.declared.fault.InputFault.TheVariants.{TooLong, Param, Table, Row, Sum, Weight}
use Rattle.mz_project.specs.declared.fault.ReadFault.{ReadFault}
use Rattle.mz_project.specs.declared.fault.ReadFault.TheVariants.{Shelf, Absent, Input, NoMemory}
use Rattle.mz_project.specs.Reads.{Reads}
use Rattle.mz_project.specs.Reads.Outcome.{Missing, Refused, Given}

-- a fact of the files, where they are told
abbrev pub IfTold : State → (Files → Type 0) → Type 0
IfTold state P = IfSome state.contents.files P

-- nothing was written or said, and each call was done
pub record OnlyRead (old new : State) : Type 0 where
  pub contents : new.contents ≡ old.contents
  pub counts : new.counts ≡ old.counts

-- want of memory is no fault of the input
abbrev pub IsParamFault : ParamFault → Type 0
IsParamFault NoMemoryForParams = ⊥
IsParamFault fault = Unit {0}

abbrev pub IsTableFault : TableFault → Type 0
IsTableFault NoMemoryForTable = ⊥
IsTableFault fault = Unit {0}

abbrev pub IsRowFault : RowFault → Type 0
IsRowFault NoMemoryForRows = ⊥
IsRowFault fault = Unit {0}

-- a file that is too long raised its count alone, and other faults raised none; no want of memory stands within a fault
abbrev pub RoseForFault : InputFault → State → State → Type 0
RoseForFault (TooLong which) old new = OneOver old.counts new.counts
RoseForFault (Param fault) old new = (new.counts ≡ old.counts) × IsParamFault fault
RoseForFault (Table which fault) old new = (new.counts ≡ old.counts) × IsTableFault fault
RoseForFault (Row which fault) old new = (new.counts ≡ old.counts) × IsRowFault fault
RoseForFault (Sum what) old new = new.counts ≡ old.counts
RoseForFault (Weight id) old new = new.counts ≡ old.counts

-- each of these names was read, once and in this order, and no other
abbrev pub ReadEach : List (List ℕ) → State → State → Type 0
ReadEach names old new = new.reads ≡ reads_after names old.reads

-- the first few of these names were read so
pub record ReadFirst (names : List (List ℕ)) (old new : State) : Type 0 where
  pub front : List (List ℕ)
  pub behind : List (List ℕ)
  pub split : names ≡ front ++ behind
  pub read : ReadEach front old new

-- the names before this one were read so
pub record ReadBefore (names : List (List ℕ)) (name : List ℕ) (old new : State) : Type 0 where
  pub front : List (List ℕ)
  pub behind : List (List ℕ)
  pub split : names ≡ front ++ name ∷ behind
  pub read : ReadEach front old new

-- what was wanted is given, as told files give it
pub record IsGiven {X : Type 0} (reads : Files → Reads X) (old new : State) (x : X) : Type 0 where
  pub read : OnlyRead old new
  pub names : IfTold old (λ files. ReadEach (reads files).names old new)
  pub given : IfTold old (λ files. (reads files).outcome ≡ Given x)

-- the input is refused for this fault, as told files are
pub record IsRefused {X : Type 0} (reads : Files → Reads X) (old new : State) (fault : InputFault) : Type 0 where
  pub contents : new.contents ≡ old.contents
  pub names : IfTold old (λ files. ReadEach (reads files).names old new)
  pub rose : RoseForFault fault old new
  pub refused : IfTold old (λ files. (reads files).outcome ≡ Refused fault)

-- no file has this name, and among told files it is the one that is missing
pub record IsMissing {X : Type 0} (reads : Files → Reads X) (old new : State) (name : List ℕ) : Type 0 where
  pub contents : new.contents ≡ old.contents
  pub names : IfTold old (λ files. ReadEach (reads files).names old new)
  pub rose : OneMiss old.counts new.counts
  pub missing : IfTold old (λ files. (reads files).outcome ≡ Missing name)

-- a read of this name failed, after nothing but the reads before it
pub record IsUnread {X : Type 0} (reads : Files → Reads X) (old new : State) (name : List ℕ) : Type 0 where
  pub between : State
  pub read : OnlyRead old between
  pub names : IfTold old (λ files. ReadBefore (reads files).names name old between)
  pub failed : ReadFailed name between new

-- memory ended the reading
pub record IsCutShort {X : Type 0} (reads : Files → Reads X) (old new : State) : Type 0 where
  pub read : OnlyRead old new
  pub names : IfTold old (λ files. ReadFirst (reads files).names old new)

-- why nothing was given
abbrev pub IsStopped : {X : Type 0} → (Files → Reads X) → State → State → ReadFault → Type 0
IsStopped reads old new (Shelf name) = IsUnread reads old new name
IsStopped reads old new (Absent name) = IsMissing reads old new name
IsStopped reads old new (Input fault) = IsRefused reads old new fault
IsStopped reads old new NoMemory = IsCutShort reads old new

-- the answer is what the files give, or why they give nothing
abbrev pub ReadAs : {X : Type 0} → (Files → Reads X) → State → State → Result X ReadFault → Type 0
ReadAs reads old new (Ok x) = IsGiven reads old new x
ReadAs reads old new (Err fault) = IsStopped reads old new fault

-- a reader's fault as a fault of the reading
abbrev pub fault_of_params : ParamFault → ReadFault
fault_of_params NoMemoryForParams = NoMemory
fault_of_params fault = Input (Param fault)

abbrev pub fault_of_table : Which → TableFault → ReadFault
fault_of_table which NoMemoryForTable = NoMemory
fault_of_table which fault = Input (Table which fault)

abbrev pub fault_of_rows : Which → RowFault → ReadFault
fault_of_rows which NoMemoryForRows = NoMemory
fault_of_rows which fault = Input (Row which fault)

-- why what was read isn't taken: its fault, or want of memory
abbrev pub IsFaultOf : {X : Type 0} → Result X InputFault → InputFault → Type 0
IsFaultOf made (TooLong which) = ⊥
IsFaultOf made (Param fault) = (made ≡ Err (Param fault)) × IsParamFault fault
IsFaultOf made (Table which fault) = (made ≡ Err (Table which fault)) × IsTableFault fault
IsFaultOf made (Row which fault) = (made ≡ Err (Row which fault)) × IsRowFault fault
IsFaultOf made (Sum what) = made ≡ Err (Sum what)
IsFaultOf made (Weight id) = made ≡ Err (Weight id)

-- the answer is what was made, or its fault, or want of memory; no file was read for it
abbrev pub TakenAs : {X : Type 0} → Result X InputFault → Result X ReadFault → Type 0
TakenAs made (Ok x) = made ≡ Ok x
TakenAs made (Err (Input fault)) = IsFaultOf made fault
TakenAs made (Err NoMemory) = Unit {0}
TakenAs made (Err fault) = ⊥
