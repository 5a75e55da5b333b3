-- A test at the places below a number.
use Rattle.std.proofs.Common.{◌≡◌, ℕ, zero, suc, ◌^◌, ◌<◌, ◌≤◌, Bool, true, false, ◌||◌, refl, sym, ap, subst, ◌∙◌, arith, inl, inr}
use Rattle.std.proofs.lemmas.Bool.{cases_eq, lt-ltb, le-ltb, ltb-false}
use Rattle.mz_project.specs.Limits.{is_above, some_below}

-- of two that aren't either true
pub or_true : (a b : Bool) → b ≡ true → (a || b) ≡ true
or_true true b e = refl
or_true false b e = e

pub left_false : (a b : Bool) → (a || b) ≡ false → a ≡ false
left_false true b e = cc
left_false false b e = refl

pub right_false : (a b : Bool) → (a || b) ≡ false → b ≡ false
right_false true b e = cc
right_false false b e = e

-- it holds at a place
pub some_below-at : (n k : ℕ) (test : ℕ → Bool) → k < n → test k ≡ true → some_below n test ≡ true
some_below-at zero k test below holds = absurd (omega (arith, below))
some_below-at (suc n) k test below holds =
    elim (cases_eq k n) [
      | inl same ↦ or_true (some_below n test) (test n) (subst (λ i. test i ≡ true) same holds)
      | inr other ↦ ap (λ b. b || test n) (some_below-at n k test (omega arith) holds)
    ]

-- it holds nowhere
pub some_below-none : (n : ℕ) (test : ℕ → Bool) → ((k : ℕ) → k < n → test k ≡ false) → some_below n test ≡ false
some_below-none zero test fails = refl
some_below-none (suc n) test fails = ap (λ b. b || test n) (some_below-none n test (λ k below. fails k (omega arith))) ∙ fails n (omega arith)

pub none_below-at : (n k : ℕ) (test : ℕ → Bool) → some_below n test ≡ false → k < n → test k ≡ false
none_below-at zero k test fails below = absurd (omega (arith, below))
none_below-at (suc n) k test fails below =
    elim (cases_eq k n) [
      | inl same ↦ subst (λ i. test i ≡ false) (sym same) (right_false (some_below n test) (test n) fails)
      | inr other ↦ none_below-at n k test (left_false (some_below n test) (test n) fails) (omega arith)
    ]

-- the same of numbers above the limit
pub above_below : (n k : ℕ) (f : ℕ → ℕ) → k < n → 10 ^ 18 < f k → some_below n (λ i. is_above (f i)) ≡ true
above_below n k f below above = some_below-at n k (λ i. is_above (f i)) below (lt-ltb (10 ^ 18) (f k) above)

pub within_below : (n : ℕ) (f : ℕ → ℕ) → ((k : ℕ) → k < n → f k ≤ 10 ^ 18) → some_below n (λ i. is_above (f i)) ≡ false
within_below n f within = some_below-none n (λ i. is_above (f i)) (λ k below. le-ltb (10 ^ 18) (f k) (within k below))

pub within-at : (n k : ℕ) (f : ℕ → ℕ) → some_below n (λ i. is_above (f i)) ≡ false → k < n → f k ≤ 10 ^ 18
within-at n k f within below = ltb-false (10 ^ 18) (f k) (none_below-at n k (λ i. is_above (f i)) within below)
