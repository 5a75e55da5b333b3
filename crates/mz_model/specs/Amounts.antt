-- Amounts of features in units, as rows (unit, feature, amount).
use Rattle.std.specs.Prelude.{ℕ, cond, List, [], ◌∷◌, map, ◌==◌, ◌&&◌}
use Rattle.std.specs.List.{sum_by}
use Rattle.mz_num.specs.Places.{values_at}

-- the amount of a feature in a unit: that of their row, and 0 where they have none
abbrev pub amount_of : List (ℕ × ℕ × ℕ) → ℕ → ℕ → ℕ
amount_of [] unit feature = 0
amount_of (row ∷ rows) unit feature = cond (row.0 == unit && row.1 == feature) row.2 (amount_of rows unit feature)

-- a row as the feature with the unit that holds it and the amount there
abbrev pub holder_of : ℕ × ℕ × ℕ → ℕ × (ℕ × ℕ)
holder_of row = (row.1, (row.0, row.2))

-- the units that hold a feature, each with its amount there, in the order of the rows
unfoldable pub holders_of : List (ℕ × ℕ × ℕ) → ℕ → List (ℕ × ℕ)
holders_of rows feature = values_at feature (map holder_of rows)

-- the total of a feature: the sum of its amounts
unfoldable pub total_of : List (ℕ × ℕ × ℕ) → ℕ → ℕ
total_of rows feature = sum_by (λ (holder : ℕ × ℕ). holder.1) (holders_of rows feature)
