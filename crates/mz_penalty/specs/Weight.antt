-- The weight of a target row, in this project's profile.
use Rattle.std.specs.Prelude.{ℕ, ◌*◌, ◌^◌}
use Rattle.mz_num.specs.Round.{round}

-- the species penalty factor, in millionths, times the base
unfoldable pub weight_of : ℕ → ℕ → ℕ
weight_of spf base = round (spf * base) (10 ^ 6)
