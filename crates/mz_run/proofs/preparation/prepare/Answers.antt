use Rattle.mz_run.specs.Arguments.Form.{File, Generated}
use Rattle.mz_run.proofs.PreparedLemmas.{file_read, form_prepared, no_form}
use Rattle.mz_run.proofs.preparation.prepare.Goals as goal

pub returns-in-Unknown-clause-ends : goal.returns-in-Unknown-clause-ends
returns-in-Unknown-clause-ends g c = no_form _ _ c.in-Unknown.ensures.form

pub returns-in-File-clause-ends : goal.returns-in-File-clause-ends
returns-in-File-clause-ends g c =
    form_prepared _ (File c.in-File.file.now c.in-File.workers) c.args.chance _ _ c.read_job.result c.in-File.ensures.form
    (file_read c.in-File.file.now c.in-File.workers c.args.chance _ _ c.read_job.result c.read_job.ensures.ends)

pub returns-in-Generated-clause-ends : goal.returns-in-Generated-clause-ends
returns-in-Generated-clause-ends g c = form_prepared _ (Generated c.in-Generated.number) c.args.chance _ _ c.make_job.result c.in-Generated.ensures.form c.make_job.ensures.ends
