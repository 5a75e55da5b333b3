-- The base of a target row, of which its weight is a multiple, in this project's profile.
use Rattle.std.specs.Prelude.{ℕ, Bool, List, map, filter, max, nat_lt, slice_index}
use Rattle.std.specs.List.{sum_by}
use Rattle.mz_penalty.specs.Order.{HeldAmount, comes_before}

-- the units with a positive amount of the row's feature, each with its raw cost
abbrev pub held_by : List ℕ → List (ℕ × ℕ) → List HeldAmount
held_by raw amounts =
    map (λ unit. record { place = unit.0; cost = slice_index raw unit.0; amount = unit.1 }) amounts

-- the amounts of the units that come before one
abbrev pub amount_before : List HeldAmount → HeldAmount → ℕ
amount_before all unit =
    sum_by (λ other. other.amount) (filter (λ other. comes_before other unit) all)

-- units are taken in their order until their amounts reach the level or none is left: one is taken
-- where the amounts of those before it don't reach the level
abbrev pub is_taken : List HeldAmount → ℕ → HeldAmount → Bool
is_taken all level unit = nat_lt (amount_before all unit) level

-- the raw costs of the units that are taken
abbrev pub cost_taken : List HeldAmount → ℕ → ℕ
cost_taken all level = sum_by (λ unit. unit.cost) (filter (is_taken all level) all)

-- that sum, at least 10000
unfoldable pub base_of : List ℕ → List (ℕ × ℕ) → ℕ → ℕ
base_of raw amounts level = max (cost_taken (held_by raw amounts) level) 10000
