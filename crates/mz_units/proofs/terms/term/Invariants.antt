use Rattle.mz_units.proofs.TermLemmas.{IsSumSoFar}
use Rattle.mz_units.proofs.terms.term.Given as goal

abbrev pub invariant-loop-cost : goal.invariant-loop-cost
invariant-loop-cost l = IsSumSoFar l.costs l.unit_costs l.mult l.unit l.zone l.cost l.sum
