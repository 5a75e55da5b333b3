use Rattle.std.proofs.Common.{ap, ◌∙◌, length}
use Rattle.mz_run.proofs.CountLemmas.{length-totals}
use Rattle.mz_run.proofs.plan_files.write_missing.Goals as goal

pub missing_text-requires : goal.missing_text-requires
missing_text-requires g c = ap length c.requires ∙ length-totals c.args.job.now.problem _
