use Rattle.std.proofs.Common.{◌≡◌, ◌++◌}
use Rattle.mz_num.specs.Places.{list_below}
use Rattle.mz_units.specs.Terms.{cost_term}
use Rattle.mz_units.proofs.terms.push_terms.Given as goal

abbrev pub invariant-loop-zone : goal.invariant-loop-zone
invariant-loop-zone l = l.terms.items ≡ l.initial.terms.items ++ list_below l.zone (cost_term l.costs l.unit_costs l.mult l.unit)
