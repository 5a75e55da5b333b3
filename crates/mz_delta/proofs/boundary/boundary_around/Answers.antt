use Rattle.std.proofs.Common.{◌∙◌, ap, arith}
use Rattle.mz_model.specs.Boundary.{edge_term_of}
use Rattle.mz_model.specs.Parts.{outer_at}
use Rattle.mz_num.proofs.PlaceLaws.{sum_below-more}
use Rattle.mz_delta.specs.Move.{neighbour_term}
use Rattle.mz_delta.proofs.AroundLaws.{boundary_around-is, neighbour-in_range, neighbour_term-is, neighbours-all}
use Rattle.mz_delta.proofs.boundary.boundary_around.Goals as goal

pub edge_term-requires-clause-second : goal.edge_term-requires-clause-second
edge_term-requires-clause-second c = neighbour-in_range c.args.problem.now c.args.reading.now c.neighbours-neighbours.result.now c.as_slice-zones.result.now c.loop-i.i c.neighbours-neighbours.ensures.valid c.requires.well_formed c.neighbours-neighbours.ensures.neighbours c.as_slice-zones.ensures c.loop-i-test.true

pub loop-i-preserved : goal.loop-i-preserved
loop-i-preserved c =
    let more = sum_below-more c.loop-i.i (neighbour_term c.args.problem.now c.args.reading.now c.args.zone) in
    let term = neighbour_term-is c.args.problem.now c.args.reading.now c.neighbours-neighbours.result.now c.as_slice-zones.result.now c.args.zone c.loop-i.i c.neighbours-neighbours.ensures.neighbours c.as_slice-zones.ensures in
    record {
      sum = omega (arith, c.loop-i.invariant.sum, c.edge_term.ensures.term, term, more);
      small = omega (arith, c.loop-i.invariant.small, c.edge_term.ensures.small);
    }

pub returns-clause-around : goal.returns-clause-around
returns-clause-around c =
    let all = neighbours-all c.args.problem.now c.args.reading.now c.neighbours-neighbours.result.now c.loop-i.i (omega arith) c.loop-i-test.false c.neighbours-neighbours.ensures.neighbours in
    boundary_around-is c.args.problem.now c.args.reading.now c.args.zone c.loop-i.i c.loop-i.sum c.edge_term-2.result all c.loop-i.invariant.sum
    (c.edge_term-2.ensures.term ∙ ap (λ len. edge_term_of c.args.problem.now len c.args.zone c.available.result) c.outer-outer.ensures.length ∙ ap (edge_term_of c.args.problem.now (outer_at c.args.problem.now c.args.reading.now.unit) c.args.zone) c.available.ensures.zone)
