use Rattle.std.proofs.Common.{arith, max, ap, ◌∙◌, pos, get_or}
use Rattle.mz_cool.proofs.AdaptiveLemmas.{greatest-none, greatest-more, size-read}
use Rattle.mz_cool.proofs.adaptive.greatest_size.Goals as goal

pub loop-change-init : goal.loop-change-init
loop-change-init c = record { value = greatest-none; bound = omega arith }

pub loop-change-preserved : goal.loop-change-preserved
loop-change-preserved c =
    let change = get_or c.args.changes.now c.loop-change.change-index (pos 0) in
    let small = c.requires c.loop-change.change-index (pos 0) c.loop-change-test.true in
    let size = size-read change _ small c.unsigned_abs.ensures.value in
    record {
      value =
          c.max-greatest.ensures ∙ ap (max c.loop-change.greatest) size
          ∙ greatest-more _ _ _ _ c.loop-change-test.true c.loop-change.invariant.value;
      bound = omega (arith, size, small);
    }
