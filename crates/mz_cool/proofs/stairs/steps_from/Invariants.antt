use Rattle.std.proofs.Common.{ℕ, ◌-◌, ◌<◌, ◌≤◌}
use Rattle.mz_cool.specs.Acceptance.{descent}
use Rattle.mz_cool.proofs.stairs.steps_from.Given as goal

abbrev pub invariant-loop-steps : goal.invariant-loop-steps
invariant-loop-steps l = record {
  few : l.steps ≤ 1408;
  above : (n : ℕ) → n < l.steps → l.word < descent n;
}

abbrev pub decreases-loop-steps : goal.decreases-loop-steps
decreases-loop-steps l = 1408 - l.steps
