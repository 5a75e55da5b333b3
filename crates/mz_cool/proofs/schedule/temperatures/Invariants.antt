use Rattle.std.proofs.Common.{◌≡◌}
use Rattle.mz_cool.specs.Schedule.{temperature_of_level}
use Rattle.mz_cool.specs.Table.{IsTable}
use Rattle.mz_cool.proofs.schedule.temperatures.Given as goal

abbrev pub invariant-loop-level : goal.invariant-loop-level
invariant-loop-level l = record {
  temperature : l.temperature ≡ temperature_of_level l.first l.factor l._level;
  table : IsTable (temperature_of_level l.first l.factor) l._level l.temperatures.items;
}
