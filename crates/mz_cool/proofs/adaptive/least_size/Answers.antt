use Rattle.std.proofs.Common.{arith, ◌^◌, pos, get_or}
use Rattle.mz_cool.proofs.AdaptiveLemmas.{least-none, least-more, least-same, smaller-le, size-read}
use Rattle.mz_cool.proofs.adaptive.least_size.Goals as goal
use Rattle.mz_cool.proofs.adaptive.least_size.Goals.{then-size-gt0, else-size-gt0}

pub loop-change-init : goal.loop-change-init
loop-change-init c = record { value = least-none; bound = tt }

pub loop-change-preserved : goal.loop-change-preserved
loop-change-preserved c =
    let change = get_or c.args.changes.now c.loop-change.change-index (pos 0) in
    let small = c.requires c.loop-change.change-index (pos 0) c.loop-change-test.true in
    let size = size-read change _ small c.unsigned_abs-size.ensures.value in
    elim c.if-size-gt0.branch [
      | then-size-gt0 w ↦
          let value = least-more _ _ _ _ _ _ c.loop-change-test.true size w.if-size-gt0.true c.loop-change.invariant.value w.smaller.ensures in
          rw w.least-is (record { value = value; bound = smaller-le _ c.unsigned_abs-size.result _ (10 ^ 25) w.smaller.ensures (omega (arith, size, small)) })
      | else-size-gt0 w ↦
          let value = least-same _ _ _ _ _ c.loop-change-test.true size w.if-size-gt0.false c.loop-change.invariant.value in
          rw w.least-is (record { value = value; bound = c.loop-change.invariant.bound })
    ]
