use Rattle.std.proofs.lemmas.Result.{err_from_is_err_and}
use Rattle.mz_params.specs.ParamFile.{params_from}
use Rattle.mz_project.specs.declared.fault.Which.TheVariants.{Params as ParamFile}
use Rattle.mz_project.specs.Project.{of_params, params_read}
use Rattle.mz_project.specs.Reads.{file_read, taken}
use Rattle.mz_project.proofs.ReadLemmas.{read_and_taken, stops}
use Rattle.mz_project.proofs.parameters.read_params.Goals as goal

pub returns-in_err-bytes-clause-read : goal.returns-in_err-bytes-clause-read
unfolding params_read
returns-in_err-bytes-clause-read g c =
    let p = err_from_is_err_and c.from_residual.result c.from_residual.ensures.1 in
    rw (p.1, p.2) (stops (λ files. file_read files c.args.name.now ParamFile) (λ bytes _. taken (of_params (params_from bytes))) _ _ _ c.in_err-bytes.ensures.read)

pub returns-clause-read : goal.returns-clause-read
unfolding params_read
returns-clause-read g c =
    read_and_taken (λ files. file_read files c.args.name.now ParamFile) (λ bytes. of_params (params_from bytes)) c.in_ok-bytes.bytes.items _ _ c.params_in.result c.in_ok-bytes.ensures.read (rw c.deref.ensures.value at c.params_in.ensures.taken)
