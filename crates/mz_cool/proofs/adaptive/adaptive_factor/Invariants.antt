use Rattle.std.proofs.Common.{ℕ, ◌-◌, ◌<◌, ◌≤◌, ◌^◌}
use Rattle.mz_cool.specs.Schedule.{temperature_of_level}
use Rattle.mz_cool.proofs.adaptive.adaptive_factor.Given as goal

abbrev pub invariant-loop-passing : goal.invariant-loop-passing
invariant-loop-passing l = record {
  order : l.passing < l.failing;
  below : l.failing ≤ 10 ^ 9;
  passes : temperature_of_level l.first l.passing l.levels ≤ l.last;
  fail : (g : ℕ) → l.failing ≤ g → g < 10 ^ 9 → l.last < temperature_of_level l.first g l.levels;
}

abbrev pub decreases-loop-passing : goal.decreases-loop-passing
decreases-loop-passing l = l.failing - l.passing
