use Rattle.std.proofs.Common.{rules}
use Rattle.mz_run.proofs.AnnealLemmas.{at-rest}
use Rattle.mz_run.proofs.anneal.at_rest.Goals as goal

pub returns : goal.returns
returns c = at-rest c.args.job.now c.args.run _ c.requires.rests (search rules) c.in_ok-plan.ensures.plan c.in_ok-plan.ensures.legal (search rules) (search rules) (search rules)
