use Rattle.mz_run.proofs.WorkLemmas.{runs_whole, answers_accepted, answers_refused, completes_accepted, completes_refused, counts_accepted, counts_refused}
use Rattle.mz_run.proofs.program.marzone.Goals as goal

pub returns-in-Ok-clause-runs : goal.returns-in-Ok-clause-runs
returns-in-Ok-clause-runs g c = runs_whole _ _ _ _ _ _ _ c.in-Ok.job c.run_job.result c.in-Ok.ensures.ends c.run_job.ensures

pub returns-in-Ok-clause-answers : goal.returns-in-Ok-clause-answers
returns-in-Ok-clause-answers g c = answers_accepted _ c.args.chance _ _ _ _ _ c.in-Ok.job c.run_job.result c.in-Ok.ensures.ends c.run_job.ensures

pub returns-in-Ok-clause-completes : goal.returns-in-Ok-clause-completes
returns-in-Ok-clause-completes g c = completes_accepted _ _ c.args.chance _ _ _ _ _ c.in-Ok.job c.run_job.result c.in-Ok.ensures.ends c.run_job.ensures

pub returns-in-Ok-clause-counts : goal.returns-in-Ok-clause-counts
returns-in-Ok-clause-counts g c = counts_accepted _ c.args.chance _ _ _ _ _ c.in-Ok.job c.run_job.result c.in-Ok.ensures.ends c.run_job.ensures

pub returns-in-Err-clause-counts : goal.returns-in-Err-clause-counts
returns-in-Err-clause-counts g c = counts_refused _ _ _ _ c.in-Err.status c.in-Err.ensures.ends c.refuse.ensures

pub returns-in-Err-clause-completes : goal.returns-in-Err-clause-completes
returns-in-Err-clause-completes g c = completes_refused _ _ _ _ _ c.in-Err.ensures.ends c.refuse.ensures

pub returns-in-Err-clause-answers : goal.returns-in-Err-clause-answers
returns-in-Err-clause-answers g c = answers_refused _ _ _ c.in-Err.status c.in-Err.ensures.ends
