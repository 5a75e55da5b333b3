-- Laws of sums over lists and over places.
use Rattle.std.proofs.Common.{◌≡◌, ℕ, zero, suc, ◌+◌, ◌<◌, ◌≤◌, Bool, true, false, cond, List, [], ◌∷◌, ◌++◌, length, take, get_or, refl, ap, sym, ◌∙◌, add-one, arith}
use Rattle.std.specs.List.{sum_by}
use Rattle.std.proofs.lemmas.Bool.{cond-true, cond-false}
use Rattle.std.proofs.lemmas.List.{append-nil, take_all}
use Rattle.std.proofs.lemmas.List.Sums.{sum_by_more, sum_by_push}
use Rattle.mz_num.specs.Places.{sum_below, places_below}
use Rattle.mz_num.proofs.PlaceLaws.{places_below-more}

-- the sum over the front of a list, place by place
sum_by-take : {X : Type 0} (f : X → ℕ) (xs : List X) (d : X) (n : ℕ) → n ≤ length xs → sum_by f (take n xs) ≡ sum_below n (λ i. f (get_or xs i d))
sum_by-take f xs d zero h = refl
sum_by-take f xs d (suc n) h =
    ap (λ m. sum_by f (take m xs)) (sym (add-one n)) ∙ sum_by_more f xs n d (omega arith)
    ∙ ap (λ s. s + f (get_or xs n d)) (sum_by-take f xs d n (omega arith))

-- the sum over a list, place by place
pub sum_by-places : {X : Type 0} (f : X → ℕ) (xs : List X) (d : X) → sum_by f xs ≡ sum_below (length xs) (λ i. f (get_or xs i d))
sum_by-places f xs d = ap (sum_by f) (sym (take_all (length xs) xs (omega arith))) ∙ sum_by-take f xs d (length xs) (omega arith)

-- one place more
sum_below-where_at : (n : ℕ) (test : ℕ → Bool) (f g : ℕ → ℕ) → sum_below n f + sum_by g (places_below n test) ≡ sum_below n g + sum_by f (places_below n test)
    → places_below (suc n) test ≡ places_below n test ++ cond (test n) (n ∷ []) []
    → (b : Bool) → test n ≡ b → (test n ≡ false → f n ≡ g n)
    → sum_below (suc n) f + sum_by g (places_below (suc n) test) ≡ sum_below (suc n) g + sum_by f (places_below (suc n) test)
sum_below-where_at n test f g low step true passes same =
    let places : places_below (suc n) test ≡ places_below n test ++ n ∷ [] = step ∙ ap (λ xs. places_below n test ++ xs) (cond-true (test n) (n ∷ []) [] passes) in
    let of_f : sum_by f (places_below (suc n) test) ≡ sum_by f (places_below n test) + f n = ap (sum_by f) places ∙ sum_by_push f (places_below n test) n in
    let of_g : sum_by g (places_below (suc n) test) ≡ sum_by g (places_below n test) + g n = ap (sum_by g) places ∙ sum_by_push g (places_below n test) n in
    omega arith
sum_below-where_at n test f g low step false fails same =
    let places : places_below (suc n) test ≡ places_below n test = step ∙ ap (λ xs. places_below n test ++ xs) (cond-false (test n) (n ∷ []) [] fails) ∙ append-nil (places_below n test) in
    let of_f : sum_by f (places_below (suc n) test) ≡ sum_by f (places_below n test) = ap (sum_by f) places in
    let of_g : sum_by g (places_below (suc n) test) ≡ sum_by g (places_below n test) = ap (sum_by g) places in
    let top : f n ≡ g n = same fails in
    omega arith

-- two sums over all places differ by what they differ over the places that pass the test, where they are equal at the
-- others
pub sum_below-where : (n : ℕ) (test : ℕ → Bool) (f g : ℕ → ℕ) → ((k : ℕ) → k < n → test k ≡ false → f k ≡ g k) → sum_below n f + sum_by g (places_below n test) ≡ sum_below n g + sum_by f (places_below n test)
sum_below-where zero test f g same = refl
sum_below-where (suc n) test f g same =
    let low : sum_below n f + sum_by g (places_below n test) ≡ sum_below n g + sum_by f (places_below n test) = sum_below-where n test f g (λ k h fails. same k (omega arith) fails) in
    let step : places_below (suc n) test ≡ places_below n test ++ cond (test n) (n ∷ []) [] = ap (λ i. places_below i test) (sym (add-one n)) ∙ places_below-more n test in
    sum_below-where_at n test f g low step (test n) refl (same n (omega arith))
