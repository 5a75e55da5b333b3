use Rattle.std.proofs.Common.{refl}
use Rattle.std.proofs.lemmas.Result.{err_from_is_err_and}
use Rattle.mz_run.proofs.RunLemmas.{few_counted, none_ran, own_counted, ran_all, ran_more, ran_none, runs_stop}
use Rattle.mz_run.proofs.WatchingLemmas.{told_none, told_on}
use Rattle.mz_run.proofs.runs.all_runs.Goals as goal

pub returns-in_err-counted-clause-ran : goal.returns-in_err-counted-clause-ran
returns-in_err-counted-clause-ran g c =
    let p = err_from_is_err_and c.from_residual.result c.from_residual.ensures.1 in
    rw (p.1, p.2) (none_ran _ _ _ _ c.requires.fresh refl)

pub loop-done-init : goal.loop-done-init
loop-done-init g c = (ran_none _ _ _ _ c.requires.fresh c.in_ok-counted.ensures, told_none c.args.job.now _ _ c.requires.fresh)

pub one_run-requires-clause-few_counted : goal.one_run-requires-clause-few_counted
one_run-requires-clause-few_counted g c κs within = few_counted _ c.loop-done.done _ _ _ _ c.loop-done.best c.loop-done.invariant.0 c.loop-done-test.true c.requires.accepted.reps

pub one_run-requires-clause-own_problem : goal.one_run-requires-clause-own_problem
one_run-requires-clause-own_problem g c κs within = own_counted _ c.loop-done.done _ _ _ _ c.loop-done.best c.loop-done.invariant.0

pub loop-done-preserved : goal.loop-done-preserved
loop-done-preserved g c =
    (rw c.better.ensures (ran_more _ c.loop-done.done _ _ _ _ _ _ _ c.loop-done.best _ c.loop-done.invariant.0 c.in_ok-last.ensures.ran), told_on c.args.job.now _ _ _ _ _ c.loop-done.invariant.1 c.in_ok-last.ensures.told)

pub returns-in_err-last-clause-ran : goal.returns-in_err-last-clause-ran
returns-in_err-last-clause-ran g c =
    let p = err_from_is_err_and c.from_residual-in_err-last.result c.from_residual-in_err-last.ensures.1 in
    rw (p.1, p.2) (runs_stop _ c.loop-done.done _ _ _ _ _ _ c.loop-done.best _ c.loop-done-test.true c.loop-done.invariant.0 c.in_err-last.ensures.ran)

pub returns-clause-ran : goal.returns-clause-ran
returns-clause-ran g c = ran_all _ c.loop-done.done _ _ _ _ _ c.loop-done.best c.loop-done.auto.done-end c.loop-done-test.false c.loop-done.invariant.0

pub returns-in_err-counted-clause-told : goal.returns-in_err-counted-clause-told
returns-in_err-counted-clause-told g c = told_none c.args.job.now _ _ c.requires.fresh

pub returns-in_err-last-clause-told : goal.returns-in_err-last-clause-told
returns-in_err-last-clause-told g c = told_on c.args.job.now _ _ _ _ _ c.loop-done.invariant.1 c.in_err-last.ensures.told

pub returns-clause-told : goal.returns-clause-told
returns-clause-told g c = c.loop-done.invariant.1
