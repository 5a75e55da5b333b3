-- Sums over lists.
use Rattle.std.proofs.Common.{◌≡◌, ℕ, ◌+◌, Bool, true, false, cond, List, [], ◌∷◌, map, refl, sym, ◌∙◌, ap, arith}
use Rattle.std.specs.Prelude.{filter, All}
use Rattle.std.specs.List.{sum_by}
use Rattle.std.specs.List.Sorted.{IsPermutation}
use Rattle.std.proofs.lemmas.List.Sums.{sum_by-cons}
use Rattle.std.proofs.lemmas.List.Elements.{All-head, All-tail}
use Rattle.std.proofs.lemmas.List.Sorted.{sum_by-IsPermutation}

pub sum_by-map : {X Y : Type 0} (f : Y → ℕ) (g : X → Y) (xs : List X) → sum_by f (map g xs) ≡ sum_by (λ x. f (g x)) xs
sum_by-map f g [] = refl
sum_by-map f g (x ∷ xs) = sum_by-cons f (g x) (map g xs) ∙ ap (λ s. f (g x) + s) (sum_by-map f g xs) ∙ sym (sum_by-cons (λ y. f (g y)) x xs)

pub sum_by-nothing : {X : Type 0} (xs : List X) → sum_by (λ x. 0) xs ≡ 0
sum_by-nothing [] = refl
sum_by-nothing (x ∷ xs) = sum_by-cons (λ y. 0) x xs ∙ ap (λ n. 0 + n) (sum_by-nothing xs)

-- terms that are equal at each element
pub sum_by-same : {X : Type 0} (f g : X → ℕ) (xs : List X) → All (λ x. f x ≡ g x) xs → sum_by f xs ≡ sum_by g xs
sum_by-same f g [] h = refl
sum_by-same f g (x ∷ xs) h =
    let first : f x ≡ g x = All-head (λ y. f y ≡ g y) x xs h in
    let rest : sum_by f xs ≡ sum_by g xs = sum_by-same f g xs (All-tail (λ y. f y ≡ g y) x xs h) in
    sum_by-cons f x xs ∙ ap (λ n. n + sum_by f xs) first ∙ ap (λ s. g x + s) rest ∙ sym (sum_by-cons g x xs)

-- a term where the test passes, and 0 where it doesn't
abbrev pub part : {X : Type 0} → (X → Bool) → (X → ℕ) → X → ℕ
part p f x = cond (p x) (f x) 0

part-cons : {X : Type 0} (p : X → Bool) (f : X → ℕ) (x : X) (xs : List X) (b : Bool) → sum_by f (filter p xs) ≡ sum_by (part p f) xs → sum_by f (cond b (x ∷ filter p xs) (filter p xs)) ≡ cond b (f x) 0 + sum_by (part p f) xs
part-cons p f x xs true e = sum_by-cons f x (filter p xs) ∙ ap (λ s. f x + s) e
part-cons p f x xs false e = e ∙ omega arith

-- the sum over what passes is the sum of the parts
pub sum_by-filter : {X : Type 0} (p : X → Bool) (f : X → ℕ) (xs : List X) → sum_by f (filter p xs) ≡ sum_by (part p f) xs
sum_by-filter p f [] = refl
sum_by-filter p f (x ∷ xs) = part-cons p f x xs (p x) (sum_by-filter p f xs) ∙ sym (sum_by-cons (part p f) x xs)

-- another order of the list, and another test that passes the same
pub sum_by-filter-permutation : {X : Type 0} (p : X → Bool) (f : X → ℕ) (xs ys : List X) → IsPermutation xs ys → sum_by f (filter p ys) ≡ sum_by f (filter p xs)
sum_by-filter-permutation p f xs ys h = sum_by-filter p f ys ∙ sum_by-IsPermutation (part p f) xs ys h ∙ sym (sum_by-filter p f xs)

pub part-same : {X : Type 0} (p q : X → Bool) (f : X → ℕ) (x : X) → p x ≡ q x → part p f x ≡ part q f x
part-same p q f x e = ap (λ b. cond b (f x) 0) e
