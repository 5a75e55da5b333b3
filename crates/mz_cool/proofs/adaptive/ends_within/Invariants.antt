use Rattle.std.proofs.Common.{◌≡◌}
use Rattle.mz_cool.specs.Schedule.{temperature_of_level}
use Rattle.mz_cool.proofs.adaptive.ends_within.Given as goal

abbrev pub invariant-loop-level : goal.invariant-loop-level
invariant-loop-level l = l.temperature ≡ temperature_of_level l.first l.factor l._level
