-- The best of several scores.
use Rattle.std.specs.Prelude.{◌≡◌, ℕ, ◌<◌, ◌≤◌, Bool, List, length, slice_index, Option, None, Some, nat_le}
use Rattle.std.specs.List.{list_all, position}

-- no score is lower
abbrev pub is_least : List ℕ → ℕ → Bool
is_least scores score = list_all (λ other. nat_le score other) scores

-- the first place of the least score, and none where there are no scores
abbrev pub best_of : List ℕ → Option ℕ
best_of scores = position (is_least scores) scores

-- of the first n scores none is lower than the one at the place, and each before it is greater
pub record IsFirstLeastOf (n : ℕ) (scores : List ℕ) (place : ℕ) : Type 0 where
  pub in_range : place < n
  pub least : (k : ℕ) → k < n → slice_index scores place ≤ slice_index scores k
  pub first : (k : ℕ) → k < place → slice_index scores place < slice_index scores k

-- that of all scores
abbrev pub IsFirstLeast : List ℕ → ℕ → Type 0
IsFirstLeast scores place = IsFirstLeastOf (length scores) scores place

-- the best of the first n scores
abbrev pub IsBestOf : ℕ → List ℕ → Option ℕ → Type 0
IsBestOf n scores None = n ≡ 0
IsBestOf n scores (Some place) = IsFirstLeastOf n scores place
