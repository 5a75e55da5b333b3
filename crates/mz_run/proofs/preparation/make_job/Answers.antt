use Rattle.std.proofs.lemmas.Result.{err_from_is_err_and}
use Rattle.mz_run.specs.Prepared.IsInputStopped.{in_reading}
use Rattle.mz_run.proofs.PreparedLemmas.{made_stopped}
use Rattle.mz_run.proofs.preparation.make_job.Goals as goal

pub returns-in_err-make_files-clause-ends : goal.returns-in_err-make_files-clause-ends
returns-in_err-make_files-clause-ends g c =
    let p = err_from_is_err_and c.from_residual.result c.from_residual.ensures.1 in
    rw (p.1, p.2) (made_stopped (Unit {0}) c.args.number _ _ _ c.in_err-make_files.ensures)

pub returns-in_err-job-clause-ends : goal.returns-in_err-job-clause-ends
returns-in_err-job-clause-ends g c =
    let p = err_from_is_err_and c.from_residual-in_err-job.result c.from_residual-in_err-job.ensures.1 in
    rw (p.1, p.2) (in_reading _ c.in_ok-make_files.ensures c.in_err-job.ensures.ends)

pub returns-clause-ends : goal.returns-clause-ends
returns-clause-ends g c = record { started = _; start = c.in_ok-make_files.ensures; read = c.in_ok-job.ensures.ends }
