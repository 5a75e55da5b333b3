-- What the files of a project read as.
use Rattle.std.specs.Prelude.{ℕ, List, Result, Ok, Err}
use Rattle.mz_shelf.specs.State.{Files}
use Rattle.mz_params.specs.declared.fault.ParamFault.{ParamFault}
use Rattle.mz_params.specs.declared.params.Params.{Params}
use Rattle.mz_params.specs.ParamFile.{params_from}
use Rattle.mz_model.specs.declared.parts.Parts.{Parts}
use Rattle.mz_project.specs.declared.fault.InputFault.{InputFault}
use Rattle.mz_project.specs.declared.fault.InputFault.TheVariants.{Param}
use Rattle.mz_project.specs.declared.fault.Which.TheVariants.{Params as ParamFile}
use Rattle.mz_project.specs.Limits.{limited_parts}
use Rattle.mz_project.specs.Reads.{Reads, file_read, taken, then_read}
use Rattle.mz_project.specs.Region.{region_read}

-- the fault of a parameter file is one of the input
abbrev pub of_params : Result Params ParamFault → Result Params InputFault
of_params (Ok params) = Ok params
of_params (Err fault) = Err (Param fault)

-- the parameters of the parameter file of that name
unfoldable pub params_read : List ℕ → Files → Reads Params
params_read name files = then_read (file_read files name ParamFile) (λ bytes. taken (of_params (params_from bytes)))

-- the problem of these parameters: the files that they give, one after another, and then the limits
unfoldable pub project_read : Params → Files → Reads Parts
project_read params files = then_read (region_read params files) (λ region. taken (limited_parts params region))
