-- The definitions at worked examples: three units of raw costs 10, 20 and 30, that hold 2, 3 and 4.
use Rattle.std.specs.Prelude.{◌≡◌, ℕ, List, [], ◌∷◌, refl}
use Rattle.mz_penalty.specs.Base.{base_of}
use Rattle.mz_penalty.specs.Weight.{weight_of}
use Rattle.mz_num.specs.Round.{round}

abbrev pub costs : List ℕ
costs = 100000 ∷ 200000 ∷ 300000 ∷ []

abbrev pub amounts : List (ℕ × ℕ)
amounts = (0, 20000) ∷ (1, 30000) ∷ (2, 40000) ∷ []

-- the first unit doesn't reach 4, and the first two do
pub two_are_taken : base_of costs amounts 40000 ≡ 300000
unfolding base_of
two_are_taken = refl

pub weight_of_two : weight_of 2000000 300000 ≡ 600000
unfolding weight_of round
weight_of_two = refl

-- a level that is reached exactly takes no further unit, and one above it does
pub reached_exactly : base_of costs amounts 50000 ≡ 300000
unfolding base_of
reached_exactly = refl

pub just_above : base_of costs amounts 50001 ≡ 600000
unfolding base_of
just_above = refl

pub beyond_all : base_of costs amounts 90001 ≡ 600000
unfolding base_of
beyond_all = refl

-- no unit holds the feature
pub no_amounts : base_of costs [] 40000 ≡ 10000
unfolding base_of
no_amounts = refl

pub weight_of_least : weight_of 3000000 10000 ≡ 30000
unfolding weight_of round
weight_of_least = refl

-- of equal costs per amount the lesser place is taken
pub ties_by_place : base_of (200000 ∷ 100000 ∷ []) ((0, 20000) ∷ (1, 10000) ∷ []) 10000 ≡ 200000
unfolding base_of
ties_by_place = refl

-- the second unit costs more, and less per amount
pub by_cost_per_amount : base_of (100000 ∷ 150000 ∷ []) ((0, 10000) ∷ (1, 30000) ∷ []) 30000 ≡ 150000
unfolding base_of
by_cost_per_amount = refl
