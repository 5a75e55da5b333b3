use Rattle.std.proofs.Common.{ℕ, List, arith, ap, length, ◌∙◌, ◌++◌}
use Rattle.mz_num.specs.Places.{list_below}
use Rattle.mz_units.specs.Terms.{cost_term}
use Rattle.mz_units.proofs.TermLemmas.{count-fits, terms-unit}
use Rattle.mz_units.proofs.terms.cost_terms.Goals as goal

pub push_terms-requires-clause-unit : goal.push_terms-requires-clause-unit
push_terms-requires-clause-unit c =
    let fits = count-fits c.requires.costs.0 c.cost_count-costs.result c.args.units.now c.args.mult.now c.args.zones c.loop-unit.unit c.requires.costs.1 (record { counted = c.cost_count-costs.ensures.counted; nothing = c.cost_count-costs.ensures.nothing }) (omega (arith, c.len-unit-end.ensures.len)) in
    omega (arith, fits.unit_costs_fit, ap length c.as_slice.ensures)

pub loop-unit-preserved : goal.loop-unit-preserved
loop-unit-preserved c = terms-unit c.cost_count-costs.result c.args.units.now.costs c.args.mult.now c.args.zones c.loop-unit.unit c.loop-unit.terms.items c.push_terms.new.terms.items c.loop-unit.invariant
    (c.in_ok-push_terms.ensures ∙ ap (λ (costs : List ℕ). c.loop-unit.terms.items ++ list_below c.args.zones (cost_term c.cost_count-costs.result costs c.args.mult.now c.loop-unit.unit)) c.as_slice.ensures)
