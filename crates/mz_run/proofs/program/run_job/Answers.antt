use Rattle.std.proofs.Common.{rules, refl}
use Rattle.mz_run.proofs.WorkLemmas.{runs_job}
use Rattle.mz_run.proofs.program.run_job.Goals as goal

pub returns : goal.returns
returns g c = runs_job c.args.job _ _ _ _ _ _ _ _ c.work.ensures.worked c.work.ensures.runs c.work.ensures.few c.work.ensures.told c.status_of_work-status.ensures (search rules) refl c.refuse.ensures
