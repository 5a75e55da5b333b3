-- The first place that passes a test, as a search finds it.
use Rattle.std.proofs.Common.{◌≡◌, ℕ, ◌<◌, Bool, true, false, List, ◌≤◌, length, get_or, take, length-take-le, Option, Some, None, refl, sym, ◌∙◌, ap, arith, cond}
use Rattle.std.specs.Prelude.{position, nat_lt}
use Rattle.std.specs.List.{position_or_len}
use Rattle.std.proofs.lemmas.List.Sums.{position_or_len_is, fails_before_first}
use Rattle.std.proofs.lemmas.List.{get_or-take}
use Rattle.std.proofs.lemmas.Bool.Decides.{nat_tests}

nat_lt-true : (m n : ℕ) → m < n → nat_lt m n ≡ true
nat_lt-true m n h = grind (arith, nat_tests)

nat_lt-false : (n : ℕ) → nat_lt n n ≡ false
nat_lt-false n = grind (arith, nat_tests)

pub position-found : {X : Type 0} (p : X → Bool) (xs : List X) (i : ℕ) (d : X) → i < length xs → ((k : ℕ) → k < i → p (get_or xs k d) ≡ false) → p (get_or xs i d) ≡ true → position p xs ≡ Some i
position-found {X} p xs i d h below passes =
    let e : position_or_len p xs ≡ i = position_or_len_is p xs i d (omega arith) below (λ _. passes) in
    let t : nat_lt i (length xs) ≡ true = nat_lt-true i (length xs) h in
    rw (e, t) refl

pub position-none : {X : Type 0} (p : X → Bool) (xs : List X) (d : X) → ((k : ℕ) → k < length xs → p (get_or xs k d) ≡ false) → position p xs ≡ None
position-none {X} p xs d below =
    let e : position_or_len p xs ≡ length xs = position_or_len_is p xs (length xs) d (omega arith) below (λ h. absurd (omega arith)) in
    let t : nat_lt (length xs) (length xs) ≡ false = nat_lt-false (length xs) in
    rw (e, t) refl

test_failed : (b : Bool) (n : ℕ) → ◌≡◌ {A = Option ℕ} (cond b (Some n) None) None → b ≡ false
test_failed true n e = cc
test_failed false n e = refl

none_below : {X : Type 0} (p : X → Bool) (xs : List X) → position p xs ≡ None → length xs ≤ position_or_len p xs
none_below {X} p xs e =
    let t : nat_lt (position_or_len p xs) (length xs) ≡ false = test_failed (nat_lt (position_or_len p xs) (length xs)) (position_or_len p xs) e in
    grind (arith, nat_tests)

-- the first place that passes, where none of those before it does
pub position-next : {X : Type 0} (p : X → Bool) (xs : List X) (i : ℕ) (x : X) → position p (take i xs) ≡ None → i < length xs → x ≡ get_or xs i x → p x ≡ true → position p xs ≡ Some i
position-next {X} p xs i x before h is passes =
    position-found p xs i x h
    (λ k less.
    let long : i ≤ position_or_len p (take i xs) = omega (arith, none_below p (take i xs) before, length-take-le i xs) in
    let fails : p (get_or (take i xs) k x) ≡ false = fails_before_first p (take i xs) k x (omega arith) in
    ap p (sym (get_or-take i xs k x less)) ∙ fails)
    (ap p (sym is) ∙ passes)
