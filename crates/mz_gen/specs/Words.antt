-- The random words of a generated project.
use Rattle.std.specs.Prelude.{ℕ, ◌+◌, ◌*◌, List}
use Rattle.mz_num.specs.Places.{list_below}
use Rattle.mz_draw.specs.Words.{word_at}

-- the first words of Pcg32 made by `new` with the number as state and 4095 as stream, that of seat 63 in run 63
unfoldable pub words_of : ℕ → ℕ → List ℕ
words_of count number = list_below count (λ i. word_at number 63 63 i)

-- a unit has 21 words: the first is for its cost, the others are for the features
abbrev pub cost_place : ℕ → ℕ
cost_place unit = 21 * unit

abbrev pub amount_place : ℕ → ℕ → ℕ
amount_place unit feature = 21 * unit + 1 + feature
