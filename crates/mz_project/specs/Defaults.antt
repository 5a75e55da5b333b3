-- What counts by zone where no file says it.
use Rattle.std.specs.Prelude.{ℕ, ◌==◌, if◌then◌else◌, List, replicate}
use Rattle.std.specs.List.{flat_map, range_with_len}
use Rattle.mz_num.specs.Limits.{million}

-- a thing counts once outside the available zone, and not within it; in millionths
abbrev pub one_outside : ℕ → ℕ → ℕ
one_outside available zone = if zone == available then 0 else million

-- the same for each of so many things in each zone, at `zone * things + thing`
unfoldable pub ones_outside : ℕ → ℕ → ℕ → List ℕ
ones_outside zones things available =
    flat_map (λ zone. replicate things (one_outside available zone)) (range_with_len 0 zones)
