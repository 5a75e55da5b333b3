use Rattle.std.proofs.Common.{ap, ◌∙◌, length, rules}
use Rattle.mz_run.proofs.CountLemmas.{length-totals, row-is}
use Rattle.mz_run.proofs.counted.summary_row.Goals as goal

pub shortfall-requires : goal.shortfall-requires
shortfall-requires c = ap length c.requires.totals ∙ length-totals c.args.job.now.problem _

pub missing_rows-requires : goal.missing_rows-requires
missing_rows-requires c = ap length c.requires.totals ∙ length-totals c.args.job.now.problem _

pub returns : goal.returns
returns c = row-is c.args.job.now c.args.trail.now _ _ _ _ c.requires.totals c.shortfall.ensures.plan c.missing_rows.ensures (search rules)
