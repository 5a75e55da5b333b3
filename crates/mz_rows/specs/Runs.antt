-- Pairs that are added row by row: rows in order of their pairs, and the sums so far.
use Rattle.std.specs.Prelude.{ℕ, ◌+◌, ◌-◌, ◌*◌, ◌^◌, ◌≡◌, Bool, false, List, length, slice_get, Option, Some, None}
use Rattle.std.specs.List.{All, AllPairs, list_any}
use Rattle.mz_num.specs.Order.{IsBefore}
use Rattle.mz_rows.specs.Pairs.{names, pair_sum}

-- a pair as one number, which goes by the first place first where second places are below 2 ^ 32
abbrev pub pair_key : ℕ × ℕ × ℕ → ℕ
pair_key pair = pair.0 * 2 ^ 32 + pair.1

-- there is a sum, and it is that of a row's pair
abbrev pub names_pair : Option (ℕ × ℕ × ℕ) → ℕ × ℕ × ℕ → Bool
names_pair None row = false
names_pair (Some sum) row = names row.0 row.1 sum

-- the last sum is that of a row's pair
abbrev pub ends_with : List (ℕ × ℕ × ℕ) → ℕ × ℕ × ℕ → Bool
ends_with sums row = names_pair (slice_get sums (length sums - 1)) row

-- the pairs that rows name, each once, in order, with the sum of its rows
pub record AreAdded (rows sums : List (ℕ × ℕ × ℕ)) : Type 0 where
  pub in_order : AllPairs IsBefore sums
  pub added : All (λ sum. sum.2 ≡ pair_sum rows sum.0 sum.1) sums
  pub named : (first second : ℕ) → list_any (names first second) sums ≡ list_any (names first second) rows
