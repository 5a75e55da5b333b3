use Rattle.std.proofs.lemmas.Result.{err_from_is_err_and}
use Rattle.mz_run.proofs.ClosingLemmas.{best_goes_on, best_stops}
use Rattle.mz_run.specs.Ran.{best_in}
use Rattle.mz_run.proofs.closing.close.Goals as goal

pub returns-in_err-write_plan : goal.returns-in_err-write_plan
returns-in_err-write_plan g c =
    let p = err_from_is_err_and c.from_residual.result c.from_residual.ensures.1 in
    rw (p.1, p.2) (best_stops c.args.job.now c.args.trails.now c.args.reports.now (best_in c.args.best.now) c.args.best.now.plan _ _ _ c.in_err-write_plan.ensures)

pub returns : goal.returns
returns g c = best_goes_on c.args.job.now c.args.trails.now c.args.reports.now (best_in c.args.best.now) c.args.best.now.plan _ _ _ c.close_runs.result c.in_ok-write_plan.ensures c.close_runs.ensures
