use Rattle.std.proofs.Common.{arith}
use Rattle.mz_cool.specs.Acceptance.{descent}
use Rattle.mz_cool.proofs.StepLemmas.{descent-zero, descent-next}
use Rattle.mz_cool.proofs.TableLemmas.{IsTable-none, IsTable-more, IsTable-whole}
use Rattle.mz_cool.proofs.stairs.heights.Goals as goal

pub loop-step-init : goal.loop-step-init
loop-step-init c = record {
  height = descent-zero;
  table = IsTable-none descent _ c.in_ok-heights.ensures.items;
}

pub loop-step-preserved : goal.loop-step-preserved
loop-step-preserved c = record {
  height = descent-next _ _ c.loop-step.invariant.height;
  table = IsTable-more _ _ _ _ _ c.loop-step.invariant.table c.loop-step.invariant.height c.in_ok-push.ensures.items;
}

pub returns : goal.returns
returns c = IsTable-whole _ _ _ _ c.loop-step.invariant.table (omega arith)
