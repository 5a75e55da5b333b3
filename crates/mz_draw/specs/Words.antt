-- The random words of a seat, those of Pcg32 (O'Neill, "PCG: a family of simple fast
-- space-efficient statistically good algorithms for random number generation").
use Rattle.std.specs.Prelude.{ℕ, ◌+◌, ◌*◌, ◌/◌, ◌^◌}
use Rattle.rand_pcg.specs.Lcg.{Lcg, started, increment_of, advance}
use Rattle.rand_pcg.specs.Pcg.{multiplier_64, pcg32}

-- a seat of a run under a random seed, and how many of its words are taken
pub record SeatWords : Type 0 where
  pub seed : ℕ
  pub run : ℕ
  pub seat : ℕ
  pub taken : ℕ

-- Pcg32 made by `new` with the random seed as state and run * 64 + seat as stream, i words on
unfoldable pub generator_at : ℕ → ℕ → ℕ → ℕ → Lcg
generator_at seed run seat i =
    advance 64 multiplier_64 i (started 64 multiplier_64 seed (increment_of 64 (run * 64 + seat)))

-- the seat's i-th word, from 0
unfoldable pub word_at : ℕ → ℕ → ℕ → ℕ → ℕ
word_at seed run seat i = (pcg32 (generator_at seed run seat i)).0

-- the one of m numbers from 0 that a word picks
unfoldable pub pick_of : ℕ → ℕ → ℕ
pick_of m word = word * m / 2 ^ 32
