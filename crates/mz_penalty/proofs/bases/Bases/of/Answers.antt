use Rattle.mz_penalty.proofs.BaseLemmas.{bases_are, costs_fit}
use Rattle.mz_penalty.proofs.bases.Bases.of.Goals as goal

pub invariant_of-result : goal.invariant_of-result
invariant_of-result c = costs_fit c.args.raw.now c.args.amounts.now c.in_ok-holders.holders.items _ c.requires.in_range c.requires.rising c.requires.costs c.in_ok-holders.ensures.same

pub returns : goal.returns
returns c = bases_are c.args.raw.now c.args.amounts.now c.in_ok-holders.holders.items c.requires.rising c.in_ok-holders.ensures.same c.in_ok-holders.ensures.sorted
