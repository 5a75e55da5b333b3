-- The rounding half up of this project's profile.
use Rattle.std.specs.Prelude.{ℕ, ◌+◌, ◌*◌, ◌/◌}

-- p / q, rounded half up to a whole number
unfoldable pub round : ℕ → ℕ → ℕ
round p q = (2 * p + q) / (2 * q)
