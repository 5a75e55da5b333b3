-- The bases of the rows of the first features of a project.
use Rattle.std.specs.Prelude.{◌≡◌, ℕ, ◌<◌, List, [], length, slice_index_or}
use Rattle.mz_penalty.specs.Order.{HeldAmount}
use Rattle.mz_penalty.specs.Ordered.{base_until}
use Rattle.mz_project.specs.declared.region.Region.{Region}
use Rattle.mz_project.specs.Weights.{bases_for}

pub record AreBases (region : Region) (count : ℕ) (bases : List (List HeldAmount)) : Type 0 where
  pub all : length bases ≡ count
  pub each : (k : ℕ) → k < count → base_until (slice_index_or bases k []) ≡ bases_for region k
