-- Laws of the rounding half up.
use Rattle.std.proofs.Common.{◌≡◌, ℕ, ◌+◌, ◌*◌, ◌/◌, ◌<◌, ◌≤◌, arith}
use Rattle.std.proofs.Math.Nat.{div-mul-le_self, le-div_iff_mul-le, div-lt_iff_lt-mul, div-eq_of_lt-le}
use Rattle.mz_num.specs.Round.{round}

-- it rises with the dividend
pub round-mono : (p p' q : ℕ) → 0 < q → p ≤ p' → round p q ≤ round p' q
unfolding round
round-mono p p' q positive h =
    let wide : 0 < 2 * q = omega arith in
    let below : (2 * p + q) / (2 * q) * (2 * q) ≤ 2 * p + q = div-mul-le_self (2 * p + q) (2 * q) in
    (le-div_iff_mul-le wide).1 (omega arith)

-- a multiple stays what it is
pub round-multiple : (k q : ℕ) → 0 < q → round (k * q) q ≡ k
unfolding round
round-multiple k q positive = div-eq_of_lt-le (2 * q) (omega arith) (omega arith)

-- a bound on the exact quotient bounds the rounded one
pub round-le : (p q k : ℕ) → 0 < q → p ≤ k * q → round p q ≤ k
unfolding round
round-le p q k positive h =
    let wide : 0 < 2 * q = omega arith in
    let below : (2 * p + q) / (2 * q) < k + 1 = (div-lt_iff_lt-mul wide).1 (omega arith) in
    omega arith
