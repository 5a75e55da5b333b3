-- The temperatures of an annealing history, in thousandths of a ten-thousandth.
use Rattle.std.specs.Prelude.{ℕ, zero, suc, ◌*◌, ◌/◌, ◌^◌, ◌≤◌, max}

-- the first temperature, the factor of a step in thousand-millionths, the number of levels, and
-- the number of entries that the history may have
pub record Cooling : Type 0 where
  pub first : ℕ
  pub factor : ℕ
  pub levels : ℕ
  pub limit : ℕ

-- the first level has the first temperature, and each next level the factor's part of it, whole and
-- at least 1
unfoldable pub temperature_of_level : ℕ → ℕ → ℕ → ℕ
temperature_of_level first factor zero = first
temperature_of_level first factor (suc level) =
    max 1 (temperature_of_level first factor level * factor / 10 ^ 9)

-- the temperature of the entry at a position, whose level is floor(position * levels / limit)
unfoldable pub temperature_at : Cooling → ℕ → ℕ
temperature_at cooling position =
    temperature_of_level cooling.first cooling.factor (position * cooling.levels / cooling.limit)

-- the numbers of a schedule that can be made
pub record IsSchedule (cooling : Cooling) : Type 0 where
  pub above : 1 ≤ cooling.first
  pub below : cooling.first ≤ 10 ^ 29
  pub factor : cooling.factor ≤ 10 ^ 9
  pub levels : 1 ≤ cooling.levels
