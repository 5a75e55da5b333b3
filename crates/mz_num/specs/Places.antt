-- Sums, greatest values and lists over the places below a number.
use Rattle.std.specs.Prelude.{ℕ, zero, suc, ◌+◌, max, Bool, cond, List, [], ◌∷◌, map, ◌==◌}
use Rattle.std.specs.List.{filter, range_with_len}

-- the sum of f over the places below n
abbrev pub sum_below : ℕ → (ℕ → ℕ) → ℕ
sum_below zero f = 0
sum_below (suc n) f = sum_below n f + f n

-- the greatest of f over the places below n, and 0 where there is no place
abbrev pub greatest_below : ℕ → (ℕ → ℕ) → ℕ
greatest_below zero f = 0
greatest_below (suc n) f = max (greatest_below n f) (f n)

-- the list of what f gives at each place below n, in order
abbrev pub list_below : {X : Type 0} → ℕ → (ℕ → X) → List X
list_below n f = map f (range_with_len 0 n)

-- the places below n that pass the test, in rising order
abbrev pub places_below : ℕ → (ℕ → Bool) → List ℕ
places_below n test = filter test (range_with_len 0 n)

-- of a list of places with values, the values at place k, in the order of the list
abbrev pub values_at : {X : Type 0} → ℕ → List (ℕ × X) → List X
values_at k [] = []
values_at k (e ∷ es) = cond (e.0 == k) (e.1 ∷ values_at k es) (values_at k es)
