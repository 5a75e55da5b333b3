use Rattle.std.proofs.Common.{◌≡◌, ◌∙◌, ap, sym, arith}
use Rattle.std.specs.Prelude.{slice_index}
use Rattle.mz_model.specs.Parts.{cost_at, unit_count}
use Rattle.mz_num.specs.Places.{sum_below}
use Rattle.mz_model.proofs.ScoreLaws.{plan-in_range, cost_of_plan-is}
use Rattle.mz_model.proofs.score.cost.Goals as goal

pub cost_of-requires-clause-zone : goal.cost_of-requires-clause-zone
cost_of-requires-clause-zone c = rw c.zone.ensures (plan-in_range c.args.problem.now c.args.plan.now c.loop-unit.unit c.units-unit-end.ensures.valid c.requires (omega (arith, c.units-unit-end.ensures.count)))

pub returns-clause-cost : goal.returns-clause-cost
returns-clause-cost c =
    let all : c.loop-unit.unit ≡ unit_count c.args.problem.now = omega (arith, c.units-unit-end.ensures.count) in
    c.loop-unit.invariant.sum ∙ ap (λ n. sum_below n (λ unit. cost_at c.args.problem.now unit (slice_index c.args.plan.now unit))) all ∙ sym (cost_of_plan-is c.args.problem.now c.args.plan.now)
