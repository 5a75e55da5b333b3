use Rattle.std.proofs.Common.{List, map, refl, sym, ap, ◌∙◌, subst}
use Rattle.std.specs.List.{All}
use Rattle.std.proofs.lemmas.Result.{err_from_is_err_and}
use Rattle.mz_run.proofs.RunLemmas.{seats_of_trails}
use Rattle.mz_run.proofs.WatchingLemmas.{told_none}
use Rattle.mz_run.proofs.WorkLemmas.{best_kept, closed, opening_stopped, reports_wait, runs_stopped}
use Rattle.mz_files.specs.declared.trail.RunTrail.{RunTrail}
use Rattle.mz_files.specs.Turns.{AreSeats}
use Rattle.mz_run.specs.Ran.{HasCounted}
use Rattle.mz_run.specs.Watching.{reports_of}
use Rattle.mz_run.proofs.program.work.Goals as goal

pub returns-in_err-open-clause-worked : goal.returns-in_err-open-clause-worked
returns-in_err-open-clause-worked g c =
    let p = err_from_is_err_and c.from_residual.result c.from_residual.ensures.1 in
    rw (p.1, p.2) (opening_stopped _ _ _ _ _ _ c.requires.fresh c.in_err-open.ensures)

pub returns-in_err-best-clause-worked : goal.returns-in_err-best-clause-worked
returns-in_err-best-clause-worked g c =
    let p = err_from_is_err_and c.from_residual-in_err-best.result c.from_residual-in_err-best.ensures.1 in
    rw (p.1, p.2) (runs_stopped _ _ _ _ _ _ _ c.in_ok-open.ensures c.in_err-best.ensures.ran)

pub close-requires-clause-legal : goal.close-requires-clause-legal
close-requires-clause-legal g c = (best_kept c.args.job.now _ _ _ _ _ c.in-Some.best _ c.in-Some.is c.in_ok-best.ensures.ran).legal

pub close-requires-clause-own_totals : goal.close-requires-clause-own_totals
close-requires-clause-own_totals g c = (best_kept c.args.job.now _ _ _ _ _ c.in-Some.best _ c.in-Some.is c.in_ok-best.ensures.ran).totals_are

pub close-requires-clause-own_score : goal.close-requires-clause-own_score
close-requires-clause-own_score g c = (best_kept c.args.job.now _ _ _ _ _ c.in-Some.best _ c.in-Some.is c.in_ok-best.ensures.ran).score_is

pub close-requires-clause-counted : goal.close-requires-clause-counted
close-requires-clause-counted g c = subst (λ (ts : List RunTrail). HasCounted c.args.job.now ts c.in_ok-best.field-0.counted) (sym c.deref-in-Some.ensures.value) c.in_ok-best.ensures.ran.counts

pub close-requires-clause-seats : goal.close-requires-clause-seats
close-requires-clause-seats g c =
    subst (λ (ts : List RunTrail). All (λ (trail : RunTrail). AreSeats trail.turns) ts) (sym c.deref-in-Some.ensures.value)
    (seats_of_trails c.args.job.now _ c.requires.workers.1 c.in_ok-best.ensures.ran.runs)

pub returns-in-Some-clause-worked : goal.returns-in-Some-clause-worked
returns-in-Some-clause-worked g c =
    closed c.args.job.now _ _ _ _ _ _ _ _ _ _ c.in-Some.best c.close.result c.in_ok-open.ensures c.in-Some.is c.in_ok-best.ensures.ran c.deref-in-Some.ensures.value
    (c.deref-in-Some-2.ensures.value ∙ c.in_ok-reports.ensures ∙ ap (λ ws. reports_of (map (λ w. (goal.Watcher-dyn g (w.vtable, w.value)).noted w.value) ws)) c.deref.ensures.value) c.close.ensures

pub returns-in_err-open-clause-told : goal.returns-in_err-open-clause-told
returns-in_err-open-clause-told g c = told_none c.args.job.now _ _ c.requires.fresh

pub returns-in_err-reports-clause-worked : goal.returns-in_err-reports-clause-worked
returns-in_err-reports-clause-worked g c =
    let p = err_from_is_err_and c.from_residual-in_err-reports.result c.from_residual-in_err-reports.ensures.1 in
    rw (p.1, p.2) (reports_wait c.args.job.now _ _ _ _ _ _ _ _ c.in_ok-open.ensures c.in_ok-best.ensures.ran refl)
