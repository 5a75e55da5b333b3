-- The acceptance of a change of score, by the steps that stand above the word.
use Rattle.std.proofs.Common.{◌≡◌, ℕ, ◌*◌, ◌/◌, ◌<◌, ◌≤◌, true, false, refl, arith, ap, sym, ◌∙◌, inl, inr, ℤ, pos, SFits, of_z, to_z}
use Rattle.std.specs.Int.{w128}
use Rattle.std.specs.Prelude.{nat_lt, int_le, unsigned_abs}
use Rattle.std.proofs.Math.Nat.{div-lt_iff_lt-mul, le-div_iff_mul-le}
use Rattle.std.proofs.lemmas.Bool.Decides.{leb_tells}
use Rattle.std.proofs.lemmas.Int.{to_z-of_z}
use Rattle.mz_cool.specs.Acceptance.{AreStepsAbove, is_accepted}

-- a quotient is below a bound where the dividend is below so many divisors
below-as : (n t bound : ℕ) → 1 ≤ t → nat_lt n (bound * t) ≡ nat_lt (n / t) bound
below-as n t bound positive = elim (leb_tells (bound * t) n) [
  | inl past ↦
      let far : bound ≤ n / t = (le-div_iff_mul-le positive).1 past.1 in
      grind (arith, past.1, far)
  | inr below ↦
      let near : n / t < bound = (div-lt_iff_lt-mul positive).1 (omega (arith, below.1)) in
      grind (arith, below.1, near)
]

-- a rise is accepted where it is below so many temperatures as steps stand above the word
pub is_accepted-below : (d : ℤ) (t word steps held size : ℕ) → SFits w128 d → 1 ≤ t
    → int_le (to_z w128 (of_z w128 d)) (pos 0) ≡ false → size ≡ unsigned_abs (to_z w128 (of_z w128 d))
    → held ≡ steps → AreStepsAbove word steps → nat_lt (64000 * size) (held * t) ≡ is_accepted d t word
unfolding is_accepted
is_accepted-below d t word steps held size fits positive risen size-is held-is are =
    let same = to_z-of_z w128 d fits in
    let size-at : size ≡ unsigned_abs d = size-is ∙ ap unsigned_abs same in
    let up : int_le d (pos 0) ≡ false = rw same at risen in
    let told = are (64000 * unsigned_abs d / t) in
    let meet = below-as (64000 * unsigned_abs d) t steps positive in
    rw (held-is, size-at, up) (meet ∙ sym told)

-- at most 0 is accepted
pub is_accepted-fallen : (d : ℤ) (t word : ℕ) → SFits w128 d → int_le (to_z w128 (of_z w128 d)) (pos 0) ≡ true
    → int_le (to_z w128 (of_z w128 d)) (pos 0) ≡ is_accepted d t word
unfolding is_accepted
is_accepted-fallen d t word fits fallen =
    let same = to_z-of_z w128 d fits in
    let down : int_le d (pos 0) ≡ true = rw same at fallen in
    fallen ∙ rw down refl
