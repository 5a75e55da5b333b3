use Rattle.std.proofs.Common.{arith}
use Rattle.mz_cool.proofs.StepLemmas.{start-next, start-of, starts-more}
use Rattle.mz_cool.proofs.stairs.starts.Goals as goal

pub loop-group-preserved : goal.loop-group-preserved
loop-group-preserved c =
    let start = start-of c.loop-group.group c.steps_from-start.result _ (omega arith) c.steps_from-start.ensures in record {
      start = start-next _ _ start;
      starts = starts-more _ _ _ _ c.loop-group.invariant.starts start c.in_ok-push.ensures.items;
    }
