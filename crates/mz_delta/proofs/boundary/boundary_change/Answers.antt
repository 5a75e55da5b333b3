use Rattle.std.proofs.Common.{◌∙◌, arith, rules}
use Rattle.std.proofs.lemmas.Int.{to_z-of_z}
use mir.Syntax.{w128}
use mir.Val.{SFits}
use Rattle.mz_num.proofs.PlaceLaws.{sum_below-more}
use Rattle.mz_model.proofs.ZoneLaws.{is_allowed-in_range}
use Rattle.mz_delta.specs.Move.{neighbour_term}
use Rattle.mz_delta.proofs.AroundLaws.{boundary_around-change, neighbour-in_range, neighbour_term-is, neighbours-all, outer-change}
use Rattle.mz_delta.proofs.boundary.boundary_change.Goals as goal

pub terms_of_move-terms-requires-clause-old : goal.terms_of_move-terms-requires-clause-old
terms_of_move-terms-requires-clause-old c = is_allowed-in_range c.args.problem.now c.args.reading.now.unit c.args.reading.now.zone c.neighbours-neighbours.ensures.valid c.requires.well_formed.unit c.requires.well_formed.zone

pub terms_of_move-terms-requires-clause-other : goal.terms_of_move-terms-requires-clause-other
terms_of_move-terms-requires-clause-other c = neighbour-in_range c.args.problem.now c.args.reading.now c.neighbours-neighbours.result.now c.as_slice-zones.result.now c.loop-i.i c.neighbours-neighbours.ensures.valid c.requires.well_formed c.neighbours-neighbours.ensures.neighbours c.as_slice-zones.ensures c.loop-i-test.true

pub loop-i-preserved : goal.loop-i-preserved
loop-i-preserved c =
    let more_old = sum_below-more c.loop-i.i (neighbour_term c.args.problem.now c.args.reading.now c.args.reading.now.zone) in
    let more_new = sum_below-more c.loop-i.i (neighbour_term c.args.problem.now c.args.reading.now c.args.zone) in
    let old = neighbour_term-is c.args.problem.now c.args.reading.now c.neighbours-neighbours.result.now c.as_slice-zones.result.now c.args.reading.now.zone c.loop-i.i c.neighbours-neighbours.ensures.neighbours c.as_slice-zones.ensures in
    let new = neighbour_term-is c.args.problem.now c.args.reading.now c.neighbours-neighbours.result.now c.as_slice-zones.result.now c.args.zone c.loop-i.i c.neighbours-neighbours.ensures.neighbours c.as_slice-zones.ensures in
    record {
      change = omega (arith, c.loop-i.invariant.change, c.terms_of_move-terms.ensures.change, old, new, more_old, more_new);
      before_small = omega (arith, c.loop-i.invariant.before_small, c.terms_of_move-terms.ensures.before);
      after_small = omega (arith, c.loop-i.invariant.after_small, c.terms_of_move-terms.ensures.after);
    }

pub terms_of_move-last-requires-clause-old : goal.terms_of_move-last-requires-clause-old
terms_of_move-last-requires-clause-old c = is_allowed-in_range c.args.problem.now c.args.reading.now.unit c.args.reading.now.zone c.neighbours-neighbours.ensures.valid c.requires.well_formed.unit c.requires.well_formed.zone

pub returns-clause-change : goal.returns-clause-change
returns-clause-change c =
    let fits : SFits w128 c.difference.result = search rules in
    let all = neighbours-all c.args.problem.now c.args.reading.now c.neighbours-neighbours.result.now c.loop-i.i (omega arith) c.loop-i-test.false c.neighbours-neighbours.ensures.neighbours in
    to_z-of_z w128 c.difference.result fits ∙ c.difference.ensures.value
    ∙ boundary_around-change c.args.problem.now c.args.reading.now c.args.reading.now.zone c.args.zone c.loop-i.i c.loop-i.before c.loop-i.after c.terms_of_move-last.result.before c.terms_of_move-last.result.after all c.loop-i.invariant.change
    (outer-change c.args.problem.now c.args.reading.now.unit c.args.reading.now.zone c.args.zone c.outer-outer.result c.available.result c.terms_of_move-last.result.before c.terms_of_move-last.result.after c.outer-outer.ensures.length c.available.ensures.zone c.terms_of_move-last.ensures.change)
