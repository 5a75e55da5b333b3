use Rattle.std.proofs.Common.{◌≡◌, ◌+◌, arith}
use Rattle.mz_model.specs.Scores.{boundary_of_plan}
use Rattle.mz_model.proofs.ScoreLaws.{boundary_of_plan-is, score_of}
use Rattle.mz_model.proofs.score.evaluate.Goals as goal

pub returns-clause-score : goal.returns-clause-score
returns-clause-score c =
    let boundary : c.pairs_boundary.result + c.outer_boundary.result ≡ boundary_of_plan c.args.problem.now c.args.plan.now = omega (arith, c.pairs_boundary.ensures.terms, c.outer_boundary.ensures.terms, boundary_of_plan-is c.args.problem.now c.args.plan.now) in
    score_of c.args.problem.now c.args.plan.now c.cost-cost.result (c.pairs_boundary.result + c.outer_boundary.result) c.penalty-penalty.result c.cost-cost.ensures.cost boundary c.penalty-penalty.ensures.penalty
