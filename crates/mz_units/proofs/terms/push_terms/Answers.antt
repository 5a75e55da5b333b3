use Rattle.std.proofs.Common.{rules}
use Rattle.mz_units.specs.Terms.{cost_term}
use Rattle.mz_units.proofs.TermLemmas.{terms-more}
use Rattle.mz_units.proofs.terms.push_terms.Goals as goal

pub loop-zone-preserved : goal.loop-zone-preserved
loop-zone-preserved c = terms-more c.loop-zone.zone (cost_term c.args.costs c.args.unit_costs.now c.args.mult.now c.args.unit) c.args.terms.now.items c.loop-zone.terms.items c.push.new.self.items c.term.result c.loop-zone.invariant c.term.ensures (search rules)
