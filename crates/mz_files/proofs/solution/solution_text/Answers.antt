use Rattle.std.proofs.Common.{◌∙◌, length, ap, rules}
use Rattle.mz_num.proofs.PlaceLaws.{length-list_below}
use Rattle.mz_model.specs.Parts.{target_count}
use Rattle.mz_model.specs.Targets.{held_of}
use Rattle.mz_files.specs.Solution.{solution_text}
use Rattle.mz_files.proofs.solution.solution_text.Goals as goal

pub shortfall-requires : goal.shortfall-requires
shortfall-requires c = ap length c.requires.own_totals ∙ length-list_below (target_count c.args.problem.now) (held_of c.args.problem.now c.args.plan.now)

pub returns : goal.returns
unfolding solution_text
returns c = rw (c.in_ok-push_scores.ensures, c.shortfall.ensures.plan c.args.plan.now c.requires.own_totals, c.requires.own_score) (search rules)
