-- Values that are worked out once.
use Rattle.std.specs.Prelude.{◌≡◌, ℕ, ◌<◌, List, length, slice_index}

-- the list has the values of f at the numbers below n
pub record IsTable (f : ℕ → ℕ) (n : ℕ) (values : List ℕ) : Type 0 where
  pub length : length values ≡ n
  pub each : (k : ℕ) → k < n → slice_index values k ≡ f k
