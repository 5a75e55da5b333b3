-- What a length of boundary between two zones costs.
use Rattle.std.specs.Prelude.{ℕ, ◌*◌}
use Rattle.mz_num.specs.Limits.{million}
use Rattle.mz_num.specs.Round.{round}

-- a zone boundary cost times the modifier of boundaries, both in millionths, rounded to millionths
abbrev pub rate : ℕ → ℕ → ℕ
rate modifier cost = round (cost * modifier) million
