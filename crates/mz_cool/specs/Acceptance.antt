-- The acceptance of a change of score, by this project's profile: a staircase stands in the place
-- of the exponential of simulated annealing's usual rule.
use Rattle.std.specs.Prelude.{◌≡◌, ℕ, zero, suc, ◌-◌, ◌*◌, ◌/◌, Bool, ◌||◌, ℤ, pos, nat_lt, int_le, unsigned_abs, if◌then◌else◌}

-- from 2^32 down, each step by the whole part of a 64th
unfoldable pub descent : ℕ → ℕ
descent zero = 4294967296
descent (suc n) = descent n - descent n / 64

-- the staircase: that descent for 1408 steps, and 0 from there on
unfoldable pub staircase : ℕ → ℕ
staircase n = if nat_lt n 1408 then descent n else 0

-- whether a change d at temperature t is accepted with a random word: it is at most 0, or the word
-- is below the staircase at floor(64000 d / t)
unfoldable pub is_accepted : ℤ → ℕ → ℕ → Bool
is_accepted d t word = int_le d (pos 0) || nat_lt word (staircase (64000 * unsigned_abs d / t))

-- so many steps of the staircase, the first ones, stand above the word
abbrev pub AreStepsAbove : ℕ → ℕ → Type 0
AreStepsAbove word steps = (n : ℕ) → nat_lt word (staircase n) ≡ nat_lt n steps
