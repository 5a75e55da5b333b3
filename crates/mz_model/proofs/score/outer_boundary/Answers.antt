use Rattle.std.proofs.Common.{◌≡◌, ◌∙◌, ap, sym, arith}
use Rattle.std.specs.Prelude.{slice_index}
use Rattle.mz_model.specs.Boundary.{edge_term_of}
use Rattle.mz_model.specs.Parts.{outer_at}
use Rattle.mz_model.specs.Scores.{outer_term}
use Rattle.mz_num.proofs.PlaceLaws.{sum_below-more}
use Rattle.mz_model.proofs.ScoreLaws.{plan-in_range, outer_term-is}
use Rattle.mz_model.proofs.score.outer_boundary.Goals as goal

pub edge_term-requires-clause-first : goal.edge_term-requires-clause-first
edge_term-requires-clause-first c = rw c.zone-zone.ensures (plan-in_range c.args.problem.now c.args.plan.now c.loop-unit.unit c.units-unit-end.ensures.valid c.requires (omega (arith, c.units-unit-end.ensures.count)))

pub loop-unit-preserved : goal.loop-unit-preserved
loop-unit-preserved c =
    let term : c.edge_term.result ≡ outer_term c.args.problem.now c.args.plan.now c.loop-unit.unit =
    c.edge_term.ensures.term ∙ ap (λ len. edge_term_of c.args.problem.now len c.zone-zone.result c.available-available.result) c.outer.ensures.length
    ∙ ap (λ k. edge_term_of c.args.problem.now (outer_at c.args.problem.now c.loop-unit.unit) k c.available-available.result) c.zone-zone.ensures
    ∙ ap (λ l. edge_term_of c.args.problem.now (outer_at c.args.problem.now c.loop-unit.unit) (slice_index c.args.plan.now c.loop-unit.unit) l) c.available-available.ensures.zone
    ∙ sym (outer_term-is c.args.problem.now c.args.plan.now c.loop-unit.unit) in
    record {
      sum = omega (arith, c.loop-unit.invariant.sum, term, sum_below-more c.loop-unit.unit (outer_term c.args.problem.now c.args.plan.now));
      small = omega (arith, c.loop-unit.invariant.small, c.edge_term.ensures.small);
    }
