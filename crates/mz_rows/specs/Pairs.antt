-- Pairs of places, each with a number, in order of the first place and then of the second; and rows that name them.
use Rattle.std.specs.Prelude.{ℕ, ◌==◌, ◌&&◌, Bool, List, [], ◌∷◌, if◌then◌else◌}
use Rattle.std.specs.List.{flat_map, list_any, range_with_len, sum_by}

-- a pair that passes the test, with its number
abbrev pub pair_if : (ℕ → ℕ → Bool) → (ℕ → ℕ → ℕ) → ℕ → ℕ → List (ℕ × ℕ × ℕ)
pair_if test number first second = (if test first second then (first, second, number first second) ∷ [] else [])

-- the pairs that pass the test, of a first place below n and a second one below m, each with its number, in order
unfoldable pub pairs_below : ℕ → ℕ → (ℕ → ℕ → Bool) → (ℕ → ℕ → ℕ) → List (ℕ × ℕ × ℕ)
pairs_below n m test number = flat_map (λ first. flat_map (pair_if test number first) (range_with_len 0 m))
    (range_with_len 0 n)

-- the row, of two places and a number, names these two places
abbrev pub names : ℕ → ℕ → ℕ × ℕ × ℕ → Bool
names first second row = (row.0 == first) && (row.1 == second)

-- what a row adds to the sum of two places
abbrev pub number_for : ℕ → ℕ → ℕ × ℕ × ℕ → ℕ
number_for first second row = (if names first second row then row.2 else 0)

-- the numbers of the rows that name two places, added
abbrev pub pair_sum : List (ℕ × ℕ × ℕ) → ℕ → ℕ → ℕ
pair_sum rows first second = sum_by (number_for first second) rows

-- each pair that rows name, of a first place below n and a second one below m, with the sum of its rows, in order
abbrev pub added_pairs : ℕ → ℕ → List (ℕ × ℕ × ℕ) → List (ℕ × ℕ × ℕ)
added_pairs n m rows = pairs_below n m (λ first second. list_any (names first second) rows) (pair_sum rows)
