use Rattle.std.proofs.Common.{rules, refl}
use Rattle.std.proofs.lemmas.Result.{err_from_is_err_and}
use Rattle.mz_run.proofs.PreparedLemmas.{params_stopped, project_stopped, job_accepted}
use Rattle.mz_run.proofs.preparation.read_job.Goals as goal

pub returns-in_err-params-clause-ends : goal.returns-in_err-params-clause-ends
returns-in_err-params-clause-ends g c =
    let p = err_from_is_err_and c.from_residual.result c.from_residual.ensures.1 in
    rw (p.1, p.2) (params_stopped _ _ c.args.file.now _ c.in_err-params.ensures.read)

pub returns-in_err-problem-clause-ends : goal.returns-in_err-problem-clause-ends
returns-in_err-problem-clause-ends g c =
    let p = err_from_is_err_and c.from_residual-in_err-problem.result c.from_residual-in_err-problem.ensures.1 in
    rw (p.1, p.2) (project_stopped _ _ _ c.args.file.now c.in_ok-params.params _ c.in_ok-params.ensures.read c.in_err-problem.ensures.read)

pub returns-clause-ends : goal.returns-clause-ends
returns-clause-ends g c =
    job_accepted c.args.file.now c.args.workers c.args.generated _ _ _ _ _ c.in_ok-params.ensures.read c.in_ok-problem.ensures.read c.in_ok-problem.ensures.files c.in_ok-params.ensures.accepted refl refl (search rules)
