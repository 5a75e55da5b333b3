-- What the value of a written number comes to, without the powers of its definition.
use Rattle.std.proofs.Common.{◌≡◌, ℕ, ◌+◌, ◌*◌, ◌^◌, ◌<◌, ◌≤◌, Ok, Err, ◌∙◌, ap, arith}
use Rattle.std.proofs.Math.Nat.{one-le-pow, pow-le-pow_right, mul-le-mul_left, mul-le-mul_right, div-eq_of_lt-le, mul-div-mul_right}
use Rattle.std.proofs.lemmas.Nat.{pow-add}
use Rattle.std.proofs.lemmas.Bool.{lt-ltb, le-ltb}
use Rattle.mz_num.specs.Round.{round}
use Rattle.mz_num.specs.NumberText.{at_most, scaled_value, WrittenNumber}
use Rattle.mz_num.specs.declared.fault.NumFault.TheVariants.{TooLarge}
use Rattle.mz_num.proofs.RoundLaws.{round-multiple}

-- a whole number times a great power is too large
pub too_great_power : (n places : ℕ) → 1 ≤ n → 18 < places → 10 ^ 18 < n * 10 ^ places
too_great_power n places positive far =
    let w : 10 ^ 19 ≤ 10 ^ places = pow-le-pow_right (omega arith) far in
    let v : 1 * 10 ^ places ≤ n * 10 ^ places = mul-le-mul_right (10 ^ places) positive in
    omega arith

-- and so is a great number times any power
pub too_great_number : (n places : ℕ) → 10 ^ 18 < n → 10 ^ 18 < n * 10 ^ places
too_great_number n places great =
    let one : 1 ≤ 10 ^ places = one-le-pow places 10 (omega arith) in
    let v : n * 1 ≤ n * 10 ^ places = mul-le-mul_left n one in
    omega arith

-- a quotient far below a half is 0
pub round-small : (p q : ℕ) → 2 * p < q → round p q ≡ 0
unfolding round
round-small p q h = div-eq_of_lt-le (2 * q) (omega arith) (omega arith)

pub too_low : (n places : ℕ) → n < 10 ^ 38 → 38 < places → round n (10 ^ places) ≡ 0
too_low n places small far =
    let w : 10 ^ 39 ≤ 10 ^ places = pow-le-pow_right (omega arith) far in
    round-small n (10 ^ places) (omega arith)

-- both sides of a quotient by one number
pub round-mul_both : (p q c : ℕ) → 0 < c → round (p * c) (q * c) ≡ round p q
unfolding round
round-mul_both p q c positive =
    let above : 2 * (p * c) + q * c ≡ (2 * p + q) * c = grind arith in
    let below : 2 * (q * c) ≡ 2 * q * c = grind arith in
    rw (above, below) (mul-div-mul_right (2 * p + q) (2 * q) positive)

-- the value where the point moves to the right, to the left, and of 0
pub value_raised : (scale : ℕ) (n : WrittenNumber) (places : ℕ) → n.raised + scale ≡ places + n.lowered → scaled_value scale n ≡ n.mantissa * 10 ^ places
unfolding scaled_value
value_raised scale n places e =
    let split : 10 ^ (n.raised + scale) ≡ 10 ^ places * 10 ^ n.lowered = ap (λ k. 10 ^ k) e ∙ pow-add 10 places n.lowered in
    let positive : 0 < 10 ^ n.lowered = one-le-pow n.lowered 10 (omega arith) in
    let whole : n.mantissa * 10 ^ (n.raised + scale) ≡ n.mantissa * 10 ^ places * 10 ^ n.lowered = grind (arith, split) in
    ap (λ p. round p (10 ^ n.lowered)) whole ∙ round-multiple (n.mantissa * 10 ^ places) (10 ^ n.lowered) positive

pub value_lowered : (scale : ℕ) (n : WrittenNumber) (places : ℕ) → n.lowered ≡ places + (n.raised + scale) → scaled_value scale n ≡ round n.mantissa (10 ^ places)
unfolding scaled_value
value_lowered scale n places e =
    let split : 10 ^ n.lowered ≡ 10 ^ places * 10 ^ (n.raised + scale) = ap (λ k. 10 ^ k) e ∙ pow-add 10 places (n.raised + scale) in
    let positive : 0 < 10 ^ (n.raised + scale) = one-le-pow (n.raised + scale) 10 (omega arith) in
    ap (λ q. round (n.mantissa * 10 ^ (n.raised + scale)) q) split ∙ round-mul_both n.mantissa (10 ^ places) (10 ^ (n.raised + scale)) positive

pub value_zero : (scale : ℕ) (n : WrittenNumber) → n.mantissa ≡ 0 → scaled_value scale n ≡ 0
unfolding scaled_value
value_zero scale n e =
    let positive : 0 < 10 ^ n.lowered = one-le-pow n.lowered 10 (omega arith) in
    let nothing : n.mantissa * 10 ^ (n.raised + scale) ≡ 0 = grind (arith, e) in
    ap (λ p. round p (10 ^ n.lowered)) nothing ∙ round-small 0 (10 ^ n.lowered) (omega arith)

pub at_most-great : (most value : ℕ) → most < value → at_most most value ≡ Err TooLarge
at_most-great most value h = grind (arith, lt-ltb most value h)

pub at_most-small : (most value v : ℕ) → v ≤ most → value ≡ v → at_most most value ≡ Ok v
at_most-small most value v h e = grind (arith, le-ltb most v h, e)
