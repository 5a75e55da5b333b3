use Rattle.judge_bench.specs.Region.{AreTargets}
use Rattle.judge_bench.proofs.rows.targets.Given as goal

abbrev pub invariant-loop-feature : goal.invariant-loop-feature
invariant-loop-feature l = AreTargets l.feature l.targets.items
