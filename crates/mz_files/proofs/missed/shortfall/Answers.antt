use Rattle.std.proofs.Common.{◌≡◌, ◌∙◌, rules}
use Rattle.mz_files.specs.Missed.{shortfall_of_totals}
use Rattle.mz_files.proofs.MissedLemmas.{own_shortfall}
use Rattle.mz_files.proofs.missed.shortfall.Goals as goal

pub returns-clause-plan : goal.returns-clause-plan
unfolding shortfall_of_totals
returns-clause-plan c plan own =
    let value : c.loop-row.sum ≡ shortfall_of_totals c.args.problem.now c.args.totals.now = search rules in
    value ∙ own_shortfall c.args.problem.now plan c.args.totals.now own
