-- The order of units is an order, since amounts are positive.
use Rattle.std.proofs.Common.{◌≡◌, ℕ, ◌*◌, ◌≤◌, true, false, arith}
use Rattle.std.proofs.Math.Nat.{mul-le-mul_right, le_of_mul-le-mul_right}
use Rattle.std.proofs.lemmas.Bool.Decides.{nat_tests}
use Rattle.std.specs.Cmp.{IsStrictWeakOrder}
use Rattle.mz_penalty.specs.declared.holder.Holder.{Holder}
use Rattle.mz_penalty.specs.Order.{HeldAmount, comes_before}
use Rattle.mz_penalty.specs.Ordered.{held}

-- quotients that don't rise from a first to a second and on to a third
pub cross_chain : (c a d b e f : ℕ) → 1 ≤ b → d * a ≤ c * b → e * b ≤ d * f → e * a ≤ c * f
cross_chain c a d b e f positive first second =
    let u : e * b * a ≤ d * f * a = mul-le-mul_right a second in
    let v : d * a * f ≤ c * b * f = mul-le-mul_right f first in
    let w : e * a * b ≤ c * f * b = grind arith in
    le_of_mul-le-mul_right w positive

-- what it says that a unit doesn't come before another
pub not_before : (x y : HeldAmount) → comes_before x y ≡ false → (y.cost * x.amount ≤ x.cost * y.amount) × (x.cost * y.amount ≡ y.cost * x.amount → y.place ≤ x.place)
not_before x y h = (grind (arith, nat_tests), λ e. grind (arith, nat_tests))

pub not_before-from : (x y : HeldAmount) → y.cost * x.amount ≤ x.cost * y.amount → (x.cost * y.amount ≡ y.cost * x.amount → y.place ≤ x.place) → comes_before x y ≡ false
not_before-from x y no_less by_place = grind (arith, nat_tests)

pub one_way : (x y : HeldAmount) → comes_before x y ≡ true → comes_before y x ≡ false
one_way x y h = grind (arith, nat_tests)

pub chain : (x y z : HeldAmount) → 1 ≤ x.amount → 1 ≤ y.amount → 1 ≤ z.amount → comes_before x y ≡ false → comes_before y z ≡ false → comes_before x z ≡ false
chain x y z p q r h k =
    let u = not_before x y h in
    let v = not_before y z k in
    not_before-from x z (cross_chain x.cost x.amount y.cost y.amount z.cost z.amount q u.0 v.0)
    (λ e.
    let xz : x.cost * z.amount ≤ z.cost * x.amount = omega arith in
    let xy : x.cost * y.amount ≤ y.cost * x.amount = cross_chain y.cost y.amount z.cost z.amount x.cost x.amount r v.0 xz in
    let yz : y.cost * z.amount ≤ z.cost * y.amount = cross_chain z.cost z.amount x.cost x.amount y.cost y.amount p xz u.0 in
    let first : y.place ≤ x.place = u.1 (omega arith) in
    let second : z.place ≤ y.place = v.1 (omega arith) in
    omega arith)

-- of two units at different places one comes before the other
pub before_from_not : (x y : HeldAmount) → (x.place ≡ y.place → ⊥) → comes_before y x ≡ false → comes_before x y ≡ true
before_from_not x y apart h = grind (arith, nat_tests)

pub units_are_ordered : IsStrictWeakOrder (λ (a b : Holder). comes_before (held a) (held b))
units_are_ordered = record {
  one_way = λ x y h. one_way (held x) (held y) h;
  chain = λ x y z h k. chain (held x) (held y) (held z) x.positive y.positive z.positive h k;
}
