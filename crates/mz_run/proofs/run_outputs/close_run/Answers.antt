use Rattle.std.proofs.lemmas.Result.{err_from_is_err_and}
use Rattle.mz_shelf.proofs.PerformedLemmas.{stopped_first, stopped_here, performed_later}
use Rattle.mz_run.proofs.run_outputs.close_run.Goals as goal

pub returns-in_err-write_run : goal.returns-in_err-write_run
returns-in_err-write_run g c =
    let p = err_from_is_err_and c.from_residual.result c.from_residual.ensures.1 in
    rw (p.1, p.2) (stopped_first _ _ _ _ _ c.in_err-write_run.ensures)

pub returns-in_err-line : goal.returns-in_err-line
returns-in_err-line g c =
    let p = err_from_is_err_and c.from_residual-in_err-line.result c.from_residual-in_err-line.ensures.1 in
    rw (p.1, p.2) (stopped_here _ _ _ _ c.in_ok-write_run.ensures)

pub returns : goal.returns
returns g c = performed_later _ _ _ _ _ c.say.result c.in_ok-write_run.ensures (rw (c.deref.ensures.value, c.in_ok-line.ensures) at c.say.ensures)
