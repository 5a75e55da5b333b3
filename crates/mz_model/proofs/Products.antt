-- Products that are rounded.
use Rattle.std.proofs.Common.{◌≡◌, ℕ, ◌+◌, ◌*◌, ◌/◌, ◌<◌, ◌≤◌, inl, inr, refl, sym, ◌∙◌, arith}
use Rattle.std.specs.Prelude.{nat_lt, nat_le}
use Rattle.std.proofs.lemmas.Bool.{cases_lt, le-ltb, lt-ltb, lt-leb, le-leb}
use Rattle.std.proofs.Math.Nat.{mul-le-mul_left}
use Rattle.mz_num.specs.Round.{round}
use Rattle.mz_num.proofs.RoundLaws.{round-le}

-- to add half of the divisor and divide is to round half up
pub half_up : (p : ℕ) → (p + 500000) / 1000000 ≡ round p 1000000
unfolding round
half_up p = omega arith

pub half_up_of : (p q : ℕ) → (2 * p + q) / (2 * q) ≡ round p q
unfolding round
half_up_of p q = refl

-- the part of a weight is at most the weight
pub part-le : (weight missing level : ℕ) → 0 < level → missing ≤ level → round (weight * missing) level ≤ weight
part-le weight missing level some_level part = round-le (weight * missing) level weight some_level (mul-le-mul_left weight part)

-- half a million millionths or more count for something
pub round-positive : (p : ℕ) → nat_lt 0 (round p 1000000) ≡ nat_le 500000 p
unfolding round
round-positive p =
    elim (cases_lt p 500000) [
      | inl below ↦ le-ltb 0 ((2 * p + 1000000) / (2 * 1000000)) (omega arith) ∙ sym (lt-leb 500000 p below)
      | inr above ↦ lt-ltb 0 ((2 * p + 1000000) / (2 * 1000000)) (omega arith) ∙ sym (le-leb 500000 p above)
    ]
