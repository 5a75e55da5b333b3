use Rattle.std.proofs.Common.{◌≤◌, ◌^◌, arith}
use Rattle.mz_project.proofs.GainLemmas.{one-part, parts-more}
use Rattle.mz_project.proofs.limits.gains.gained.Goals as goal

pub overflow_add-gained : goal.overflow_add-gained
overflow_add-gained c =
    let small : c.round_half-gained.result ≤ 10 ^ 30
    = one-part c.args.holders.now c.loop-holder.holder-index c.args.part _ _ _ c.requires.amounts c.requires.part c.loop-holder-test.true c.from.ensures c.from-in-loop-holder.ensures c.round_half-gained.ensures in
    omega (arith, small, c.requires.few)

pub loop-holder-preserved : goal.loop-holder-preserved
loop-holder-preserved c =
    let small : c.round_half-gained.result ≤ 10 ^ 30
    = one-part c.args.holders.now c.loop-holder.holder-index c.args.part _ _ _ c.requires.amounts c.requires.part c.loop-holder-test.true c.from.ensures c.from-in-loop-holder.ensures c.round_half-gained.ensures in
    record {
      sum = parts-more c.args.holders.now c.loop-holder.holder-index c.args.part _ _ _ _ c.loop-holder-test.true c.from.ensures c.from-in-loop-holder.ensures c.round_half-gained.ensures c.loop-holder.invariant.sum;
      small = omega (arith, small);
    }
