-- A list of distinct ids.
use Rattle.std.specs.Prelude.{ℕ, ◌==◌, ◌++◌, Bool, List, [], ◌∷◌, position, Option, if◌then◌else◌}
use Rattle.std.specs.List.{list_any}

-- the id stands in the list
abbrev pub has_id : List ℕ → ℕ → Bool
has_id ids id = list_any (λ other. id == other) ids

-- the list with the id, which goes last unless it stands there
abbrev pub with_id : List ℕ → ℕ → List ℕ
with_id ids id = (if has_id ids id then ids else ids ++ id ∷ [])

-- the place of the id
abbrev pub place_of_id : List ℕ → ℕ → Option ℕ
place_of_id ids id = position (λ other. id == other) ids
