-- How far the last place that passes a test reaches.
use Rattle.std.proofs.Common.{◌≡◌, ℕ, zero, suc, ◌+◌, ◌-◌, ◌<◌, ◌≤◌, Bool, true, false, List, [], ◌∷◌, ◌++◌, length, map, get_or, take, Some, None, refl, sym, ap, subst, ◌∙◌, arith, inl, inr}
use Rattle.std.specs.Prelude.{◌||◌, ◌&&◌, max, nat_le, if◌then◌else◌}
use Rattle.std.specs.List.{last_or, list_any}
use Rattle.std.proofs.lemmas.Bool.{cases_Bool, cases_eq, lt-ltb, le-ltb}
use Rattle.std.proofs.Math.Seq.{take-length}
use Rattle.std.proofs.lemmas.List.{take_more}
use Rattle.std.proofs.lemmas.Bool.Decides.{leb_tells}
use Rattle.mz_num.specs.Places.{places_below}
use Rattle.mz_history.proofs.OvertakingLemmas.{last-more, last-same}
use Rattle.mz_state.specs.Versions.{greatest_by, position_past, reach_of}

-- ---- one place more

next : (n : ℕ) → n + 1 ≡ suc n
next n = omega arith

pub reach-passed : (test : ℕ → Bool) (n : ℕ) → test n ≡ true → reach_of test (n + 1) ≡ n + 1
reach-passed test n passes = subst (λ m. reach_of test m ≡ m) (sym (next n)) (rw passes refl)

pub reach-failed : (test : ℕ → Bool) (n : ℕ) → test n ≡ false → reach_of test (n + 1) ≡ reach_of test n
reach-failed test n fails = subst (λ m. reach_of test m ≡ reach_of test n) (sym (next n)) (rw fails refl)

pub reach-le : (test : ℕ → Bool) (n : ℕ) → reach_of test n ≤ n
reach-le test zero = omega arith
reach-le test (suc n) = elim (cases_Bool (test n)) [
  | inl passes ↦ rw passes (omega arith)
  | inr fails ↦ rw fails (let less = reach-le test n in omega arith)
]

pub reach-same : (f g : ℕ → Bool) (n : ℕ) → ((k : ℕ) → k < n → f k ≡ g k) → reach_of f n ≡ reach_of g n
reach-same f g zero same = refl
reach-same f g (suc n) same = ap (λ b. if b then suc n else reach_of f n) (same n (omega arith)) ∙ ap (λ m. if g n then suc n else m) (reach-same f g n (λ k below. same k (omega arith)))

-- a test that passes nowhere that the other doesn't reaches no farther
pub reach-mono : (f g : ℕ → Bool) (n : ℕ) → ((k : ℕ) → f k ≡ true → g k ≡ true) → reach_of f n ≤ reach_of g n
reach-mono f g zero imply = omega arith
reach-mono f g (suc n) imply = elim (cases_Bool (f n)) [
  | inl passes ↦ rw (passes, imply n passes) (omega arith)
  | inr fails ↦ rw fails (elim (cases_Bool (g n)) [
    | inl there ↦ rw there (let less = reach-le f n in omega arith)
    | inr fails_too ↦ rw fails_too (reach-mono f g n imply)
  ])
]

-- behind the last place that passes none does
pub reach-past : (test : ℕ → Bool) (n k : ℕ) → reach_of test n ≤ k → k < n → test k ≡ false
reach-past test zero k past below = absurd (omega arith)
reach-past test (suc n) k past below = elim (cases_Bool (test n)) [
  | inl passes ↦ let all : reach_of test (suc n) ≡ suc n = rw passes refl in absurd (omega (arith, all))
  | inr fails ↦
      let same : reach_of test (suc n) ≡ reach_of test n = rw fails refl in
      elim (cases_eq k n) [ inl e ↦ ap test e ∙ fails | inr other ↦ reach-past test n k (omega (arith, same)) (omega arith) ]
]

-- ---- greater and less

max-left : (a b : ℕ) → b ≤ a → max a b ≡ a
max-left a b less = omega arith

max-right : (a b : ℕ) → a ≤ b → max a b ≡ b
max-right a b less = omega arith

max-assoc : (a b c : ℕ) → max a (max b c) ≡ max (max a b) c
max-assoc a b c = omega arith

max-none : (a : ℕ) → max a 0 ≡ a
max-none a = omega arith

-- ---- tests joined

pub reach-or : (f g : ℕ → Bool) (n : ℕ) → reach_of (λ k. f k || g k) n ≡ max (reach_of f n) (reach_of g n)
reach-or f g zero = refl
reach-or f g (suc n) = elim (cases_Bool (f n)) [
  | inl passes ↦ rw passes (let less = reach-le g (suc n) in sym (max-left (suc n) (reach_of g (suc n)) less))
  | inr fails ↦ rw fails (elim (cases_Bool (g n)) [
    | inl there ↦ rw there (let less = reach-le f n in sym (max-right (reach_of f n) (suc n) (omega arith)))
    | inr fails_too ↦ rw fails_too (reach-or f g n)
  ])
]

reach-none : (n : ℕ) → reach_of (λ k. false) n ≡ 0
reach-none zero = refl
reach-none (suc n) = reach-none n

pub reach-any : {X : Type 0} (test : ℕ → X → Bool) (xs : List X) (n : ℕ) → reach_of (λ k. list_any (test k) xs) n ≡ greatest_by (λ x. reach_of (λ k. test k x) n) xs
reach-any test [] n = reach-none n
reach-any test (x ∷ xs) n = reach-or (λ k. test k x) (λ k. list_any (test k) xs) n ∙ ap (max (reach_of (λ k. test k x) n)) (reach-any test xs n)

-- ---- greatest values

pub greatest_by-append : {X : Type 0} (f : X → ℕ) (xs ys : List X) → greatest_by f (xs ++ ys) ≡ max (greatest_by f xs) (greatest_by f ys)
greatest_by-append f [] ys = omega arith
greatest_by-append f (x ∷ xs) ys = ap (max (f x)) (greatest_by-append f xs ys) ∙ max-assoc (f x) (greatest_by f xs) (greatest_by f ys)

pub greatest_by-map : {X Y : Type 0} (f : Y → ℕ) (g : X → Y) (xs : List X) → greatest_by f (map g xs) ≡ greatest_by (λ x. f (g x)) xs
greatest_by-map f g [] = refl
greatest_by-map f g (x ∷ xs) = ap (max (f (g x))) (greatest_by-map f g xs)

pub greatest_by-push : {X : Type 0} (f : X → ℕ) (xs : List X) (x : X) → greatest_by f (xs ++ x ∷ []) ≡ max (greatest_by f xs) (f x)
greatest_by-push f xs x = greatest_by-append f xs (x ∷ []) ∙ ap (max (greatest_by f xs)) (max-none (f x))

-- ---- the last place past a front

pub past-true : (front version : ℕ) → front < version → position_past front version ≡ Some (version - 1)
past-true front version reaches = rw (lt-ltb front version reaches) refl

pub past-false : (front version : ℕ) → version ≤ front → position_past front version ≡ None
past-false front version short = rw (le-ltb front version short) refl

and-false : (a : Bool) → (a && false) ≡ false
and-false true = refl
and-false false = refl

one_more : (front : ℕ) (test : ℕ → Bool) (n : ℕ) → position_past front (reach_of test n) ≡ last_or None (places_below n (λ k. nat_le front k && test k))
    → position_past front (reach_of test (n + 1)) ≡ last_or None (places_below (n + 1) (λ k. nat_le front k && test k))
one_more front test n so_far = let both = λ (k : ℕ). nat_le front k && test k in
    elim (cases_Bool (test n)) [
      | inl passes ↦ elim (leb_tells front n) [
        | inl behind ↦
            let here : (nat_le front n && test n) ≡ true = ap (λ b. b && test n) behind.0 ∙ passes in
            let last : n + 1 - 1 ≡ n = omega arith in
            ap (position_past front) (reach-passed test n passes) ∙ past-true front (n + 1) (omega (arith, behind.1)) ∙ ap Some last ∙ last-more n both here
        | inr before ↦
            let none : (nat_le front n && test n) ≡ false = ap (λ b. b && test n) before.0 in
            ap (position_past front) (reach-passed test n passes) ∙ past-false front (n + 1) (omega (arith, before.1))
            ∙ sym (past-false front (reach_of test n) (omega (arith, reach-le test n, before.1))) ∙ last-same n both _ so_far none
      ]
      | inr fails ↦
          let none : (nat_le front n && test n) ≡ false = ap (λ b. nat_le front n && b) fails ∙ and-false (nat_le front n) in
          ap (position_past front) (reach-failed test n fails) ∙ last-same n both _ so_far none
    ]

pub last-past : (front : ℕ) (test : ℕ → Bool) (n : ℕ) → position_past front (reach_of test n) ≡ last_or None (places_below n (λ k. nat_le front k && test k))
last-past front test zero = past-false front 0 (omega arith)
last-past front test (suc n) =
    subst (λ m. position_past front (reach_of test m) ≡ last_or None (places_below m (λ k. nat_le front k && test k))) (next n) (one_more front test n (last-past front test n))

-- ---- loops over greatest values

pub greatest_by-next : {X : Type 0} (f : X → ℕ) (xs : List X) (i m : ℕ) (d : X) → i < length xs → m ≡ greatest_by f (take i xs) → max m (f (get_or xs i d)) ≡ greatest_by f (take (i + 1) xs)
greatest_by-next f xs i m d within so_far = ap (λ n. max n (f (get_or xs i d))) so_far ∙ sym (ap (greatest_by f) (take_more xs i d within) ∙ greatest_by-push f (take i xs) (get_or xs i d))

pub greatest_by-all : {X : Type 0} (f : X → ℕ) (xs : List X) (i m : ℕ) → i ≡ length xs → m ≡ greatest_by f (take i xs) → m ≡ greatest_by f xs
greatest_by-all f xs i m all so_far = so_far ∙ ap (λ n. greatest_by f (take n xs)) all ∙ ap (greatest_by f) (take-length xs)
