use Rattle.std.proofs.Common.{rules, ◌≡◌, ◌+◌, ◌∙◌, length, get_or, arith, subst}
use Rattle.mz_model.specs.Groups.{IsFilling}
use Rattle.mz_model.proofs.FillingLaws.{all-starts, before-more, opened, opened-value, starts-more}
use Rattle.mz_model.proofs.filling.Filling.new.Goals as goal

pub loop-count-preserved : goal.loop-count-preserved
loop-count-preserved g c = record {
  ends = starts-more c.args.counts.now c.loop-count.ends.items c.push.new.self.items c.loop-count.count-index c.loop-count.total c.loop-count.invariant.ends c.loop-count.invariant.total c.in_ok-push.ensures.items;
  total = (
      let sum : c.in-Some.sum ≡ c.loop-count.total + get_or c.args.counts.now c.loop-count.count-index 0 = search rules in
      omega (arith, sum, c.loop-count.invariant.total, before-more c.args.counts.now c.loop-count.count-index c.loop-count-test.true));
}

pub invariant_of-result : goal.invariant_of-result
invariant_of-result g c =
    let size : c.loop-count.total ≡ length c.in_ok-items.items.items = omega (arith, c.in_ok-items.ensures.len, c.in_ok-items.items.ok.0) in
    subst (IsFilling c.push-2.new.self.items c.loop-count.ends.items) size
    (opened c.args.counts.now c.push-2.new.self.items c.loop-count.ends.items c.loop-count.count-index c.loop-count.total (omega (arith, c.loop-count-test.false, c.loop-count.auto.count-index-end))
    (all-starts c.args.counts.now c.loop-count.ends.items _ _ c.loop-count.count-index c.loop-count.total c.loop-count.invariant.ends c.loop-count.invariant.total (c.in_ok-starts.ensures.items ∙ c.as_slice.ensures.value) c.in_ok-push-2.ensures.items) c.loop-count.invariant.ends c.loop-count.invariant.total)

pub returns : goal.returns
returns g c = opened-value c.args.counts.now _ _ _ c.loop-count.count-index (omega (arith, c.loop-count-test.false, c.loop-count.auto.count-index-end))
    (all-starts c.args.counts.now c.loop-count.ends.items _ _ c.loop-count.count-index c.loop-count.total c.loop-count.invariant.ends c.loop-count.invariant.total (c.in_ok-starts.ensures.items ∙ c.as_slice.ensures.value) c.in_ok-push-2.ensures.items) c.loop-count.invariant.ends
