-- What it says of each thing that none passes a test, or is above the limit.
use Rattle.std.proofs.Common.{◌≡◌, ℕ, ◌^◌, ◌≤◌, Bool, true, false, List, [], ◌∷◌, None, Some, refl, sym, ◌∙◌}
use Rattle.std.specs.List.{All, find, list_any}
use Rattle.std.proofs.lemmas.Bool.{cond-false, cond-true, ltb-false}
use Rattle.std.proofs.lemmas.List.Elements.{All-cons, All-nil, All-weaker}
use Rattle.std.proofs.lemmas.Option.{none-some}
use Rattle.mz_project.specs.Limits.{is_above}
use Rattle.mz_project.proofs.BelowLemmas.{left_false, right_false}

pub none_passes : {X : Type 0} (test : X → Bool) (xs : List X) → list_any test xs ≡ false → All (λ x. test x ≡ false) xs
none_passes test [] none = All-nil (λ x. test x ≡ false)
none_passes test (x ∷ xs) none = All-cons (λ y. test y ≡ false) x xs (left_false (test x) (list_any test xs) none) (none_passes test xs (right_false (test x) (list_any test xs) none))

pub none_found : {X : Type 0} (test : X → Bool) (xs : List X) → find test xs ≡ None → All (λ x. test x ≡ false) xs
none_found test [] none = All-nil (λ x. test x ≡ false)
none_found test (x ∷ xs) none =
    elim (test x) as (λ b. test x ≡ b → All (λ y. test y ≡ false) (x ∷ xs)) [
      | true ↦ λ holds. absurd (none-some x (sym (sym (cond-true (test x) (Some x) (find test xs) holds) ∙ none)))
      | false ↦ λ fails. All-cons (λ y. test y ≡ false) x xs fails (none_found test xs (sym (cond-false (test x) (Some x) (find test xs) fails) ∙ none))
    ] refl

pub all_within : {X : Type 0} (f : X → ℕ) (xs : List X) → All (λ x. is_above (f x) ≡ false) xs → All (λ x. f x ≤ 10 ^ 18) xs
all_within f xs all = All-weaker (λ x. is_above (f x) ≡ false) (λ x. f x ≤ 10 ^ 18) (λ x low. ltb-false (10 ^ 18) (f x) low) xs all
