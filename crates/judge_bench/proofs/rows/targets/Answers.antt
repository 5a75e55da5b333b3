use Rattle.std.proofs.Common.{sym, subst}
use Rattle.judge_bench.specs.Region.{AreTargets}
use Rattle.judge_bench.proofs.RowLaws.{no_targets}
use Rattle.judge_bench.proofs.rows.targets.Goals as goal

pub loop-feature-init : goal.loop-feature-init
loop-feature-init c = subst (AreTargets 0) (sym c.new-targets.ensures.items) no_targets
