use Rattle.std.proofs.Common.{◌∙◌, sym}
use Rattle.mz_model.proofs.TargetLaws.{shortfall_of-is}
use Rattle.mz_model.proofs.score.short.Goals as goal

pub returns : goal.returns
returns c = c.saturating_sub.ensures ∙ sym (shortfall_of-is c.args.problem.now c.args.t c.args.held c.target.result c.target.ensures.row)
