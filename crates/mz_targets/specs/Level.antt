-- What a target asks for.
use Rattle.std.specs.Prelude.{ℕ, ◌*◌, Bool, if◌then◌else◌}
use Rattle.mz_num.specs.Limits.{million}
use Rattle.mz_num.specs.Round.{round}

-- the value itself, or so many millionths of the total, rounded half up
unfoldable pub level : ℕ → ℕ → Bool → ℕ
level value total proportion = (if proportion then round (value * total) million else value)
