-- What the input files ask for.
use Rattle.std.specs.Prelude.{ℕ, List, Ok}
use Rattle.mz_shelf.specs.State.{Files, State}
use Rattle.mz_params.specs.declared.params.Params.{Params}
use Rattle.mz_gen.specs.declared.fault.GenFault.{GenFault}
use Rattle.mz_gen.specs.declared.fault.GenFault.TheVariants as made
use Rattle.mz_model.specs.declared.parts.Parts.{Parts}
use Rattle.mz_project.specs.declared.fault.ReadFault.{ReadFault}
use Rattle.mz_project.specs.declared.fault.ReadFault.TheVariants as fault
use Rattle.mz_project.specs.Project.{params_read, project_read}
use Rattle.mz_project.specs.ReadAs.{IsCutShort, IsMissing, IsRefused, IsUnread}
use Rattle.mz_project.specs.Reads.{Reads, taken, then_read}
use Rattle.mz_run.specs.declared.status.Status.{Status}
use Rattle.mz_run.specs.declared.status.Status.TheVariants.{Input, ShelfFault, Absent, NoMemory}

-- a problem, and the parameters that it was read for
pub record Project : Type 0 where
  pub params : Params
  pub parts : Parts

abbrev pub project_of : Params → Parts → Project
project_of params parts = record { params = params; parts = parts }

-- the problem of parameters, with them
abbrev pub parts_asked : Params → Files → Reads Project
parts_asked params files =
    then_read (project_read params files) (λ (parts : Parts). taken (Ok (project_of params parts)))

-- the parameter file of that name, and then the files that it gives
unfoldable pub asked_of : List ℕ → Files → Reads Project
asked_of name files = then_read (params_read name files) (λ (params : Params). parts_asked params files)

-- the status of an input that couldn't be read
abbrev pub status_of_read : ReadFault → Status
status_of_read (fault.Shelf name) = ShelfFault name
status_of_read (fault.Absent name) = Absent name
status_of_read (fault.Input f) = Input f
status_of_read fault.NoMemory = NoMemory

-- the status of a project that wasn't made whole
abbrev pub status_of_made : GenFault → Status
status_of_made (made.Shelf name) = ShelfFault name
status_of_made made.NoMemory = NoMemory

-- why the input gave no project
abbrev pub InputStopped : {X : Type 0} → (Files → Reads X) → State → State → Status → Type 0
InputStopped reads old new (Input f) = IsRefused reads old new f
InputStopped reads old new (ShelfFault name) = IsUnread reads old new name
InputStopped reads old new (Absent name) = IsMissing reads old new name
InputStopped reads old new NoMemory = IsCutShort reads old new
InputStopped reads old new status = ⊥
