use Rattle.std.proofs.Common.{◌≡◌, ◌∙◌, ap, sym, arith}
use Rattle.mz_model.specs.Parts.{target_count}
use Rattle.mz_num.specs.Places.{sum_below}
use Rattle.mz_model.specs.Scores.{penalty_term_of}
use Rattle.mz_model.specs.Targets.{held_of}
use Rattle.mz_model.proofs.ScoreLaws.{penalty_of_plan-is}
use Rattle.mz_model.proofs.score.penalty.Goals as goal

pub returns-clause-penalty : goal.returns-clause-penalty
returns-clause-penalty c =
    let all : c.loop-row.row ≡ target_count c.args.problem.now = omega (arith, c.targets-row-end.ensures.count) in
    c.loop-row.invariant.sum ∙ ap (λ n. sum_below n (λ row. penalty_term_of c.args.problem.now row (held_of c.args.problem.now c.args.plan.now row))) all ∙ sym (penalty_of_plan-is c.args.problem.now c.args.plan.now)
