use Rattle.std.proofs.Common.{◌≡◌, ◌++◌, replicate}
use Rattle.mz_project.proofs.defaults.push_ones.Given as goal

abbrev pub invariant-loop-thing : goal.invariant-loop-thing
invariant-loop-thing l = l.ones.items ≡ l.initial.ones.items ++ replicate l._thing l.one
