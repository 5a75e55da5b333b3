use Rattle.std.proofs.Common.{arith}
use Rattle.mz_units.proofs.TermLemmas.{small-at, sum-more, term-is}
use Rattle.mz_units.proofs.terms.term.Goals as goal

pub loop-cost-preserved : goal.loop-cost-preserved
loop-cost-preserved c =
    sum-more c.args.costs c.args.unit_costs.now c.args.mult.now c.args.unit c.args.zone c.loop-cost.cost c.loop-cost.sum c.from.result c.from-in-loop-cost.result c.loop-cost.invariant c.from.ensures c.from-in-loop-cost.ensures
    (small-at c.args.mult.now _ c.from.result c.requires.small_multipliers (omega (arith, c.requires.zone)) c.from.ensures)
    (small-at c.args.unit_costs.now _ c.from-in-loop-cost.result c.requires.small_costs (omega (arith, c.requires.unit)) c.from-in-loop-cost.ensures)

pub returns : goal.returns
returns c = term-is c.args.costs c.args.unit_costs.now c.args.mult.now c.args.unit c.args.zone c.loop-cost.cost c.loop-cost.sum c.round_half.result c.loop-cost.invariant (omega arith) c.round_half.ensures
