use Rattle.std.proofs.Common.{◌∙◌, ap, get_or, length, arith, rules}
use Rattle.std.proofs.lemmas.Int.{to_z-of_z}
use mir.Syntax.{w128}
use mir.Val.{SFits}
use Rattle.mz_num.proofs.PlaceLaws.{length-list_below, sum_below-more}
use Rattle.mz_model.specs.Targets.{no_touch}
use Rattle.mz_model.proofs.ZoneLaws.{is_allowed-in_range}
use Rattle.mz_delta.specs.Move.{moved_total, touched_penalty}
use Rattle.mz_delta.specs.Move.{penalty_moved, penalty_read}
use Rattle.mz_delta.proofs.AroundLaws.{moved_penalty, moved-row, moved_totals-is, moved_totals-more, penalty-after, penalty-before, penalty_moved-is, penalty_read-is, touches-all}
use Rattle.mz_delta.proofs.DifferenceLaws.{crosswise}
use Rattle.mz_delta.proofs.RoomLaws.{touched-le}
use Rattle.mz_delta.proofs.rows.rows_change.Goals as goal

pub moved_total-total-requires-clause-from : goal.moved_total-total-requires-clause-from
moved_total-total-requires-clause-from c = is_allowed-in_range c.args.problem.now c.args.reading.now.unit c.args.reading.now.zone c.touches-touches.ensures.valid c.requires.well_formed.unit c.requires.well_formed.zone

pub moved_total-total-requires-clause-to : goal.moved_total-total-requires-clause-to
moved_total-total-requires-clause-to c = is_allowed-in_range c.args.problem.now c.args.reading.now.unit c.args.zone c.touches-touches.ensures.valid c.requires.well_formed.unit c.requires.allowed

pub moved_total-total-requires-clause-held : goal.moved_total-total-requires-clause-held
moved_total-total-requires-clause-held c = (moved-row c.args.problem.now c.args.reading.now c.args.zone c.loop-i.i c.touches-touches.result.now c.as_slice-held.result.now c.touches-touches.ensures.valid c.requires.well_formed c.requires.allowed c.touches-touches.ensures.touches c.as_slice-held.ensures c.loop-i-test.true).held_small

pub moved_total-total-requires-clause-lost : goal.moved_total-total-requires-clause-lost
moved_total-total-requires-clause-lost c = (moved-row c.args.problem.now c.args.reading.now c.args.zone c.loop-i.i c.touches-touches.result.now c.as_slice-held.result.now c.touches-touches.ensures.valid c.requires.well_formed c.requires.allowed c.touches-touches.ensures.touches c.as_slice-held.ensures c.loop-i-test.true).lost

pub moved_total-total-requires-clause-gained : goal.moved_total-total-requires-clause-gained
moved_total-total-requires-clause-gained c = (moved-row c.args.problem.now c.args.reading.now c.args.zone c.loop-i.i c.touches-touches.result.now c.as_slice-held.result.now c.touches-touches.ensures.valid c.requires.well_formed c.requires.allowed c.touches-touches.ensures.touches c.as_slice-held.ensures c.loop-i-test.true).gained

pub push-requires : goal.push-requires
push-requires c =
    omega (arith, ap length c.loop-i.invariant.moved, length-list_below c.loop-i.i (moved_total c.args.problem.now c.args.reading.now c.args.zone), c.loop-i.invariant.room, c.requires.fits, touched-le c.args.problem.now c.args.reading.now.unit c.requires.well_formed.unit, c.loop-i-test.true, c.touches-touches.ensures.paired)

pub loop-i-preserved : goal.loop-i-preserved
loop-i-preserved c =
    let is = moved-row c.args.problem.now c.args.reading.now c.args.zone c.loop-i.i c.touches-touches.result.now c.as_slice-held.result.now c.touches-touches.ensures.valid c.requires.well_formed c.requires.allowed c.touches-touches.ensures.touches c.as_slice-held.ensures c.loop-i-test.true in
    let more_old = sum_below-more c.loop-i.i (touched_penalty c.args.problem.now c.args.reading.now.unit c.args.reading.now.totals.items) in
    let more_new = sum_below-more c.loop-i.i (moved_penalty c.args.problem.now c.args.reading.now c.args.zone) in
    let old = penalty-before c.args.problem.now c.args.reading.now c.args.zone c.loop-i.i (get_or c.touches-touches.result.now c.loop-i.i no_touch) (get_or c.as_slice-held.result.now c.loop-i.i 0) is in
    let new = penalty-after c.args.problem.now c.args.reading.now c.args.zone c.loop-i.i (get_or c.touches-touches.result.now c.loop-i.i no_touch) (get_or c.as_slice-held.result.now c.loop-i.i 0) c.moved_total-total.result is c.moved_total-total.ensures in
    record {
      moved = moved_totals-more c.args.problem.now c.args.reading.now c.args.zone c.loop-i.i c.moved_total-total.result c.loop-i.totals.items c.push.new.self.items c.loop-i.invariant.moved (c.moved_total-total.ensures ∙ (moved-row c.args.problem.now c.args.reading.now c.args.zone c.loop-i.i c.touches-touches.result.now c.as_slice-held.result.now c.touches-touches.ensures.valid c.requires.well_formed c.requires.allowed c.touches-touches.ensures.touches c.as_slice-held.ensures c.loop-i-test.true).total) c.push.ensures.items;
      room = omega (arith, c.loop-i.invariant.room, c.push.ensures.room);
      change = omega (arith, c.loop-i.invariant.change, c.penalties_of_move-terms.ensures.change, old, new, more_old, more_new);
      before_small = omega (arith, c.loop-i.invariant.before_small, c.penalties_of_move-terms.ensures.before);
      after_small = omega (arith, c.loop-i.invariant.after_small, c.penalties_of_move-terms.ensures.after);
    }

pub returns-clause-change : goal.returns-clause-change
returns-clause-change c =
    let fits : SFits w128 c.difference.result = search rules in
    let all = touches-all c.args.problem.now c.args.reading.now.unit c.loop-i.i c.touches-touches.result.now c.touches-touches.ensures.touches (omega arith) c.loop-i-test.false in
    to_z-of_z w128 c.difference.result fits ∙ c.difference.ensures.value
    ∙ crosswise (penalty_moved c.args.problem.now c.args.reading.now c.args.zone) (penalty_read c.args.problem.now c.args.reading.now) c.loop-i.after c.loop-i.before
    (omega (arith, c.loop-i.invariant.change, penalty_read-is c.args.problem.now c.args.reading.now c.loop-i.i all, penalty_moved-is c.args.problem.now c.args.reading.now c.args.zone c.loop-i.i all))

pub returns-clause-moved : goal.returns-clause-moved
returns-clause-moved c = moved_totals-is c.args.problem.now c.args.reading.now c.args.zone c.loop-i.i c.loop-i.totals.items (touches-all c.args.problem.now c.args.reading.now.unit c.loop-i.i c.touches-touches.result.now c.touches-touches.ensures.touches (omega arith) c.loop-i-test.false) c.loop-i.invariant.moved
