use Rattle.std.proofs.Common.{◌∙◌, arith}
use Rattle.mz_num.proofs.PlaceLaws.{sum_below-more}
use Rattle.mz_delta.specs.Move.{touched_penalty}
use Rattle.mz_delta.proofs.AroundLaws.{penalty_read-is, touched_penalty-is, touches-all}
use Rattle.mz_delta.proofs.rows.penalty_before.Goals as goal

pub loop-i-preserved : goal.loop-i-preserved
loop-i-preserved c =
    let more = sum_below-more c.loop-i.i (touched_penalty c.args.problem.now c.args.reading.now.unit c.args.reading.now.totals.items) in
    let term = touched_penalty-is c.args.problem.now c.args.reading.now c.loop-i.i c.touches-touches.result.now c.as_slice-held.result.now c.touches-touches.ensures.touches c.as_slice-held.ensures c.loop-i-test.true in
    record {
      sum = omega (arith, c.loop-i.invariant.sum, c.penalty_term.ensures.term, term, more);
      small = omega (arith, c.loop-i.invariant.small, c.penalty_term.ensures.small);
    }

pub returns-clause-around : goal.returns-clause-around
returns-clause-around c =
    let all = touches-all c.args.problem.now c.args.reading.now.unit c.loop-i.i c.touches-touches.result.now c.touches-touches.ensures.touches (omega arith) c.loop-i-test.false in
    c.loop-i.invariant.sum ∙ penalty_read-is c.args.problem.now c.args.reading.now c.loop-i.i all
