use Rattle.std.proofs.Common.{[], ◌++◌, ◌∷◌, ◌∙◌, ap, rules, refl}
use Rattle.std.specs.Prelude.{is_ok}
use Rattle.std.proofs.lemmas.Result.{err_from_is_err_and}
use Rattle.mz_files.specs.declared.summary.SummaryRow.{SummaryRow}
use Rattle.mz_run.proofs.RunLemmas.{acts_stopped, ran_once, trail_of}
use Rattle.mz_run.proofs.WatchingLemmas.{told_end}
use Rattle.mz_run.specs.Run.{final_plan}
use Rattle.mz_run.proofs.runs.one_run.Goals as goal

pub returns-in_err-close_run-clause-ran : goal.returns-in_err-close_run-clause-ran
returns-in_err-close_run-clause-ran g c =
    let p = err_from_is_err_and c.from_residual-in_err-close_run.result c.from_residual-in_err-close_run.ensures.1 in
    rw (p.1, p.2) (acts_stopped c.args.job.now c.args.run c.args.trails.now.items _ _ c.index.result.now c.len-place.result (is_ok c.push.result) _ _ _
    (trail_of c.args.job.now c.args.run c.in_ok-turns.field-0 c.in_ok-turns.field-0.turns c.in_ok-turns.field-0.score c.in_ok-turns.ensures refl refl)
    (search rules) (search rules) c.push.ensures.items c.index.ensures c.in_err-close_run.ensures)

pub returns-clause-ran : goal.returns-clause-ran
returns-clause-ran g c =
    ran_once c.args.job.now c.args.run c.args.trails.now.items _ c.args.counted.now c.add_row.new.self c.add_plan.new.self _ c.index.result.now c.len-place.result (is_ok c.push.result) _ _ c.in_ok-turns.field-0 _
    c.in_ok-turns.ensures refl (search rules) (search rules) c.push.ensures.items c.index.ensures c.in_ok-close_run.ensures
    (c.in_ok-add_row.ensures.rows ∙ ap (λ (row : SummaryRow). c.args.counted.now.rows.items ++ row ∷ []) c.summary_row.ensures) c.in_ok-add_row.ensures.summed c.requires.own_problem c.add_plan.ensures.rows c.add_plan.ensures.summed refl refl refl refl

pub returns-in_err-close_run-clause-told : goal.returns-in_err-close_run-clause-told
returns-in_err-close_run-clause-told g c =
    told_end (λ w. (goal.Watcher-dyn g (w.vtable, w.value)).noted w.value) c.args.job.now c.args.run c.args.trails.now.items _ _ (is_ok c.push.result) c.in_ok-turns.field-0 c.deref-2.result.now (final_plan c.args.job.now c.args.run) _ _
    c.in_ok-turns.ensures refl refl (search rules) c.push.ensures.items c.deref-2.ensures.value c.tell_all.ensures

pub returns-clause-told : goal.returns-clause-told
returns-clause-told g c =
    told_end (λ w. (goal.Watcher-dyn g (w.vtable, w.value)).noted w.value) c.args.job.now c.args.run c.args.trails.now.items _ _ (is_ok c.push.result) c.in_ok-turns.field-0 c.deref-2.result.now (final_plan c.args.job.now c.args.run) _ _
    c.in_ok-turns.ensures refl refl (search rules) c.push.ensures.items c.deref-2.ensures.value c.tell_all.ensures
