use Rattle.mz_units.proofs.TermLemmas.{AreTermsSoFar}
use Rattle.mz_units.proofs.terms.cost_terms.Given as goal

abbrev pub invariant-loop-unit : goal.invariant-loop-unit
invariant-loop-unit l = AreTermsSoFar l.costs l.units.costs l.mult l.zones l.unit l.terms.items
