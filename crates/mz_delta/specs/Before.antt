-- What is counted round a reading's unit: before any move of it, and by how much one move changes it.
use Rattle.std.specs.Prelude.{◌≡◌, ℕ, ◌*◌, ◌^◌, ◌≤◌, unsigned_abs}
use Rattle.mz_model.specs.declared.parts.Parts.{Parts}
use Rattle.mz_model.specs.Parts.{cost_at}
use Rattle.mz_delta.specs.declared.before.Before.{Before}
use Rattle.mz_delta.specs.declared.difference.Differences.{Differences}
use Rattle.mz_delta.specs.declared.reading.Reading.{Reading}
use Rattle.mz_delta.specs.Move.{boundary_around, boundary_growth, cost_growth, penalty_growth, penalty_read}

-- the unit's cost in its zone, the boundary round it, and the penalty of the rows that it touches; none is above
-- 3 * 10^24
pub record IsBefore (parts : Parts) (reading : Reading) (before : Before) : Type 0 where
  pub cost : before.cost ≡ cost_at parts reading.unit reading.zone
  pub boundary : before.boundary ≡ boundary_around parts reading reading.zone
  pub boundary_small : before.boundary ≤ 3 * 10 ^ 24
  pub penalty : before.penalty ≡ penalty_read parts reading
  pub penalty_small : before.penalty ≤ 3 * 10 ^ 24

-- by how much cost, boundary and penalty grow where the reading's unit gets the zone
pub record AreGrowths (parts : Parts) (reading : Reading) (zone : ℕ) (differences : Differences) : Type 0 where
  pub cost : differences.cost ≡ cost_growth parts reading zone
  pub cost_small : unsigned_abs differences.cost ≤ 3 * 10 ^ 24
  pub boundary : differences.boundary ≡ boundary_growth parts reading zone
  pub boundary_small : unsigned_abs differences.boundary ≤ 3 * 10 ^ 24
  pub penalty : differences.penalty ≡ penalty_growth parts reading zone
  pub penalty_small : unsigned_abs differences.penalty ≤ 3 * 10 ^ 24
