use Rattle.std.proofs.lemmas.Result.{err_from_is_err_and}
use Rattle.mz_shelf.proofs.PerformedLemmas.{stopped_first, performed_later}
use Rattle.mz_run.proofs.plan_files.write_plan.Goals as goal

pub returns-in_err-write_solution : goal.returns-in_err-write_solution
returns-in_err-write_solution g c =
    let p = err_from_is_err_and c.from_residual.result c.from_residual.ensures.1 in
    rw (p.1, p.2) (stopped_first _ _ _ _ _ c.in_err-write_solution.ensures)

pub returns : goal.returns
returns g c = performed_later _ _ _ _ _ c.write_missing.result c.in_ok-write_solution.ensures c.write_missing.ensures
