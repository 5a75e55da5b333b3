use Rattle.std.proofs.Common.{◌≡◌, ℕ, ◌∙◌, ap, sym, get_or, arith}
use Rattle.std.specs.Prelude.{slice_index}
use Rattle.std.proofs.lemmas.List.Sums.{sum_by_more}
use Rattle.mz_model.specs.Boundary.{edge_term_of}
use Rattle.mz_model.specs.Parts.{unit_count}
use Rattle.mz_model.specs.Scores.{pair_term}
use Rattle.mz_model.specs.Valid.{IsPair}
use Rattle.mz_model.proofs.ScoreLaws.{plan-in_range, pair_term-is}
use Rattle.mz_model.proofs.score.pairs_boundary.Goals as goal

pub edge_term-requires-clause-first : goal.edge_term-requires-clause-first
edge_term-requires-clause-first c =
    let is : IsPair (unit_count c.args.problem.now) (get_or c.edges-edges.result.now c.loop-edge.edge-index (0, 0, 0)) = c.edges-edges.ensures.pairs c.loop-edge.edge-index (0, 0, 0) c.loop-edge-test.true in
    rw c.zone.ensures (plan-in_range c.args.problem.now c.args.plan.now (get_or c.edges-edges.result.now c.loop-edge.edge-index (0, 0, 0)).0 c.edges-edges.ensures.valid c.requires (omega (arith, is.first, is.second)))

pub edge_term-requires-clause-second : goal.edge_term-requires-clause-second
edge_term-requires-clause-second c =
    let is : IsPair (unit_count c.args.problem.now) (get_or c.edges-edges.result.now c.loop-edge.edge-index (0, 0, 0)) = c.edges-edges.ensures.pairs c.loop-edge.edge-index (0, 0, 0) c.loop-edge-test.true in
    rw c.zone-in-loop-edge.ensures (plan-in_range c.args.problem.now c.args.plan.now (get_or c.edges-edges.result.now c.loop-edge.edge-index (0, 0, 0)).1 c.edges-edges.ensures.valid c.requires is.second)

pub loop-edge-preserved : goal.loop-edge-preserved
loop-edge-preserved c =
    let edge : ℕ × ℕ × ℕ = get_or c.edges-edges.result.now c.loop-edge.edge-index (0, 0, 0) in
    let term : c.edge_term.result ≡ pair_term c.args.problem.now c.args.plan.now edge =
    c.edge_term.ensures.term ∙ ap (λ k. edge_term_of c.args.problem.now edge.2 k c.zone-in-loop-edge.result) c.zone.ensures
    ∙ ap (λ l. edge_term_of c.args.problem.now edge.2 (slice_index c.args.plan.now edge.0) l) c.zone-in-loop-edge.ensures
    ∙ sym (pair_term-is c.args.problem.now c.args.plan.now edge) in
    record {
      sum = omega (arith, c.loop-edge.invariant.sum, term, sum_by_more (pair_term c.args.problem.now c.args.plan.now) c.edges-edges.result.now c.loop-edge.edge-index (0, 0, 0) c.loop-edge-test.true);
      small = omega (arith, c.loop-edge.invariant.small, c.edge_term.ensures.small);
    }
