-- How a list that was seen stands to a later one.
use Rattle.std.specs.Prelude.{◌≡◌, ◌≢◌, ◌<◌, ℕ, List, ◌++◌, length, ltb, cond}
use Rattle.std.specs.List.{All}

-- the later list begins with the earlier one
pub record Begins {E : Type 0} (earlier later : List E) : Type 0 where
  pub rest : List E
  pub is : earlier ++ rest ≡ later

-- and what follows holds no entry of this number
pub record GrewByOthers {E : Type 0} (owner : E → ℕ) (number : ℕ) (earlier later : List E) : Type 0 where
  pub rest : List E
  pub is : earlier ++ rest ≡ later
  pub others : All (λ entry. owner entry ≢ number) rest

-- the later list begins with the earlier one, and what follows holds only entries of chairs' numbers, which are those
-- below `seats`
pub record GrewByChairs {E : Type 0} (owner : E → ℕ) (seats : ℕ) (earlier later : List E) : Type 0 where
  pub rest : List E
  pub is : earlier ++ rest ≡ later
  pub chairs : All (λ entry. owner entry < seats) rest

-- the longer of two lists
abbrev pub longer : {E : Type 0} → List E → List E → List E
longer xs ys = cond (ltb (length xs) (length ys)) ys xs
