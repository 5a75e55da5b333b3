-- What a test of a limit answers.
use Rattle.std.specs.Prelude.{◌≡◌, Bool, true, false, List, Option, Some, None, Result, Ok, Err}
use Rattle.mz_model.specs.declared.parts.Target.{Target}
use Rattle.mz_project.specs.declared.fault.InputFault.{InputFault}
use Rattle.mz_project.specs.declared.fault.InputFault.TheVariants.{Sum, Weight}
use Rattle.mz_project.specs.declared.fault.ReadFault.{ReadFault}
use Rattle.mz_project.specs.declared.fault.ReadFault.TheVariants.{Input, NoMemory}
use Rattle.mz_project.specs.declared.fault.What.{What}
use Rattle.mz_project.specs.declared.region.Region.{Region}
use Rattle.mz_project.specs.TargetRows.{target_rows_of, id_of_row}
use Rattle.mz_project.specs.Limits.{heavy_row}

-- the answer is what was worked out, or that the quantity is above its limit
abbrev pub Limited : {X : Type 0} → What → Bool → X → Result X ReadFault → Type 0
Limited what above x (Ok y) = (above ≡ false) × (y ≡ x)
Limited what above x (Err (Input (Sum other))) = (above ≡ true) × (other ≡ what)
Limited what above x (Err NoMemory) = Unit {0}
Limited what above x (Err fault) = ⊥

-- the answer is the rows, or the first one whose weight is above the limit
abbrev pub Weighed : Region → Result (List Target) ReadFault → Type 0
Weighed region (Ok rows) = (heavy_row region ≡ None) × (rows ≡ target_rows_of region)
Weighed region (Err (Input (Weight id))) = (row : Target) × (heavy_row region ≡ Some row) × (id ≡ id_of_row region row)
Weighed region (Err NoMemory) = Unit {0}
Weighed region (Err fault) = ⊥

-- the fault is the one that the limits found, or want of memory
abbrev pub IsFound : Option InputFault → ReadFault → Type 0
IsFound found (Input (Sum what)) = found ≡ Some (Sum what)
IsFound found (Input (Weight id)) = found ≡ Some (Weight id)
IsFound found NoMemory = Unit {0}
IsFound found fault = ⊥
