-- The lists of a region.
use Rattle.std.specs.Prelude.{◌≡◌, ℕ, ◌<◌, ◌≤◌, ◌^◌, List, [], ◌∷◌, length, slice_index_or}
use Rattle.std.specs.List.{All, AllPairs}
use Rattle.mz_model.specs.declared.parts.Target.{Target}
use Rattle.mz_model.specs.Parts.{no_target}
use Rattle.mz_num.specs.Order.{IsBefore}
use Rattle.mz_model.specs.Valid.{IsOverallRow}

-- at most so many rows of two places and a value above 0, in order
pub record AreRows (most firsts seconds : ℕ) (rows : List (ℕ × ℕ × ℕ)) : Type 0 where
  pub few : length rows ≤ most
  pub first : All (λ row. row.0 < firsts) rows
  pub second : All (λ row. row.1 < seconds) rows
  pub positive : All (λ row. 0 < row.2) rows
  pub small : All (λ row. row.2 ≤ 10 ^ 9) rows
  pub order : AllPairs IsBefore rows

-- the target of a feature over all zones
pub record IsTarget (feature : ℕ) (row : Target) : Type 0 where
  pub overall : IsOverallRow feature row
  pub low : row.level ≤ 10 ^ 12
  pub light : row.weight ≤ 10 ^ 12

-- a target for each feature
pub record AreTargets (features : ℕ) (targets : List Target) : Type 0 where
  pub whole : length targets ≡ features
  pub each : (feature : ℕ) → feature < features → IsTarget feature (slice_index_or targets feature no_target)

-- the rates of boundaries between three zones, in millionths
abbrev pub three_rates : List ℕ
three_rates = 0 ∷ 500000 ∷ 500000 ∷ 500000 ∷ 0 ∷ 250000 ∷ 500000 ∷ 250000 ∷ 0 ∷ []
