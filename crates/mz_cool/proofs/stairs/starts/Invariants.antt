use Rattle.mz_cool.specs.Starts.{AreStarts, IsStart}
use Rattle.mz_cool.proofs.stairs.starts.Given as goal

abbrev pub invariant-loop-group : goal.invariant-loop-group
invariant-loop-group l = record {
  start : IsStart l.group l.start;
  starts : AreStarts l.group l.starts.items;
}
