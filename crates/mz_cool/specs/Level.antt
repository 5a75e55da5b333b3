-- The temperature of a position, and how long it stays.
use Rattle.std.specs.Prelude.{◌≡◌, ℕ, ◌^◌, ◌<◌, ◌≤◌}
use Rattle.mz_cool.specs.Schedule.{Cooling, temperature_at}
use Rattle.mz_cool.specs.declared.level.Level.{Level}

-- the level's temperature is that of each position from this one up to the level's end
pub record IsLevelFrom (cooling : Cooling) (position : ℕ) (level : Level) : Type 0 where
  pub each : (p : ℕ) → position ≤ p → p < level.end → level.temperature ≡ temperature_at cooling p
  pub least : 1 ≤ level.temperature
  pub most : level.temperature ≤ 10 ^ 29
