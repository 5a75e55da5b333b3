-- The schedule that fits sampled changes of score.
use Rattle.std.specs.Prelude.{ℕ, zero, suc, ◌*◌, ◌^◌, Bool, List, [], ◌∷◌, ℤ, Option, Some, None, fold, filter, map, max, min, nat_lt, nat_le, unsigned_abs, if◌then◌else◌}
use Rattle.std.specs.Option.{option_map_or}
use Rattle.mz_cool.specs.Schedule.{Cooling, temperature_of_level}

-- the greatest number of a list, or 0 where it is empty
unfoldable pub greatest : List ℕ → ℕ
greatest sizes = fold max 0 sizes

-- the least number of a list, if there is one
unfoldable pub least : List ℕ → Option ℕ
least [] = None
least (size ∷ sizes) = Some (fold min size sizes)

-- the sizes of the changes other than 0
unfoldable pub sizes_above_0 : List ℤ → List ℕ
sizes_above_0 changes = filter (λ size. nat_lt 0 size) (map unsigned_abs changes)

-- a thousand times the greatest size of the changes, or of the size 1
unfoldable pub first_temperature : List ℤ → ℕ
first_temperature changes = 1000 * max 1 (greatest (map unsigned_abs changes))

-- a hundred times the least size of the changes other than 0, at least 1, or 1 where all are 0
unfoldable pub last_temperature : List ℤ → ℕ
last_temperature changes =
    option_map_or (λ size. max 1 (100 * size)) (least (sizes_above_0 changes)) 1

-- the greatest number below n that passes the test, or 0 where none does
unfoldable pub greatest_passing : (ℕ → Bool) → ℕ → ℕ
greatest_passing test zero = 0
greatest_passing test (suc n) = if test n then n else greatest_passing test n

-- the greatest factor from 0 to 999999999 for which so many steps from the first temperature give
-- at most the last
unfoldable pub adaptive_factor : ℕ → ℕ → ℕ → ℕ
adaptive_factor first last levels =
    greatest_passing (λ factor. nat_le (temperature_of_level first factor levels) last) (10 ^ 9)

-- from the first temperature by steps of the greatest factor that reaches the last
abbrev pub adaptive_cooling : List ℤ → ℕ → ℕ → Cooling
adaptive_cooling changes levels limit = record {
  first = first_temperature changes;
  factor = adaptive_factor (first_temperature changes) (last_temperature changes) levels;
  levels = levels;
  limit = limit;
}
