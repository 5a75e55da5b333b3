use Rattle.std.proofs.lemmas.Result.{err_from_is_err_and}
use Rattle.mz_run.proofs.ClosingLemmas.{line_said, line_waits, summary_stops, summed_stops, turns_stop}
use Rattle.mz_run.specs.Ran.{best_in}
use Rattle.mz_run.proofs.closing.close_runs.Goals as goal

pub returns-in_err-write_summary : goal.returns-in_err-write_summary
returns-in_err-write_summary g c =
    let p = err_from_is_err_and c.from_residual.result c.from_residual.ensures.1 in
    rw (p.1, p.2) (summary_stops c.args.job.now c.args.trails.now c.args.reports.now (best_in c.args.best.now) _ _ _ c.in_err-write_summary.ensures)

pub returns-in_err-write_summed : goal.returns-in_err-write_summed
returns-in_err-write_summed g c =
    let p = err_from_is_err_and c.from_residual-in_err-write_summed.result c.from_residual-in_err-write_summed.ensures.1 in
    rw (p.1, p.2) (summed_stops c.args.job.now c.args.trails.now c.args.reports.now (best_in c.args.best.now) _ _ _ _ c.in_ok-write_summary.ensures c.in_err-write_summed.ensures)

pub returns-in_err-write_turns : goal.returns-in_err-write_turns
returns-in_err-write_turns g c =
    let p = err_from_is_err_and c.from_residual-in_err-write_turns.result c.from_residual-in_err-write_turns.ensures.1 in
    rw (p.1, p.2) (turns_stop c.args.job.now c.args.trails.now c.args.reports.now (best_in c.args.best.now) _ _ _ _ _ c.in_ok-write_summary.ensures c.in_ok-write_summed.ensures c.in_err-write_turns.ensures)

pub returns-in_err-line : goal.returns-in_err-line
returns-in_err-line g c =
    let p = err_from_is_err_and c.from_residual-in_err-line.result c.from_residual-in_err-line.ensures.1 in
    rw (p.1, p.2) (line_waits c.args.job.now c.args.trails.now c.args.reports.now (best_in c.args.best.now) _ _ _ _ c.in_ok-write_summary.ensures c.in_ok-write_summed.ensures c.in_ok-write_turns.ensures)

pub returns : goal.returns
returns g c =
    line_said c.args.job.now c.args.trails.now c.args.reports.now (best_in c.args.best.now) _ _ _ _ _ c.say.result c.in_ok-write_summary.ensures c.in_ok-write_summed.ensures c.in_ok-write_turns.ensures
    (rw (c.deref.ensures.value, c.in_ok-line.ensures) at c.say.ensures)
