-- The mark at the end of a folder.
use Rattle.std.proofs.Common.{◌≡◌, ◌≢◌, ℕ, ◌+◌, ◌-◌, ◌≤◌, true, false, ◌||◌, inl, inr, eqb, List, [], ◌∷◌, ◌++◌, length, take, drop, refl, sym, ap, ◌∙◌, arith}
use Rattle.std.specs.List.{list_any}
use Rattle.std.proofs.lemmas.Bool.{or_cases, eqb-true}
use Rattle.std.proofs.lemmas.List.{take-append-drop, length-drop, drop_at, length-append}
use Rattle.std.proofs.Math.Seq.{take-append_seam}
use Rattle.mz_params.specs.Folder.{is_folder_mark, ends_in_mark, without_end_mark}

one_behind : (front : List ℕ) (mark : ℕ) → length (front ++ mark ∷ []) - 1 ≡ length front
one_behind front mark = let n : length (front ++ mark ∷ []) ≡ length front + 1 = length-append front (mark ∷ []) in omega (arith, n)

ends : (front : List ℕ) (mark : ℕ) → is_folder_mark mark ≡ true → ends_in_mark (front ++ mark ∷ []) ≡ true
ends front mark is = rw (drop_at front (mark ∷ []) (length (front ++ mark ∷ []) - 1) (sym (one_behind front mark)), is) refl

-- a mark at the end doesn't count
pub marked : (folder front : List ℕ) (mark : ℕ) → is_folder_mark mark ≡ true → folder ≡ front ++ mark ∷ [] → front ≡ without_end_mark folder
unfolding without_end_mark
marked folder front mark is ends_so = rw (ends_so, ends front mark is, one_behind front mark, take-append_seam front (mark ∷ [])) refl

last_is : (front last : List ℕ) → length last ≤ 1 → list_any is_folder_mark last ≡ true → ((f : List ℕ) → front ++ last ≢ f ++ 47 ∷ []) → ((f : List ℕ) → front ++ last ≢ f ++ 92 ∷ []) → ⊥
last_is front [] short is slash backslash = cc
last_is front (b ∷ []) short is slash backslash = elim (or_cases (eqb b 47 || eqb b 92) false is) [
  | inl mark ↦ elim (or_cases (eqb b 47) (eqb b 92) mark) [ inl e ↦ slash front (ap (λ x. front ++ x ∷ []) (eqb-true b 47 e)) | inr e ↦ backslash front (ap (λ x. front ++ x ∷ []) (eqb-true b 92 e)) ]
  | inr none ↦ cc
]
last_is front (b ∷ c ∷ last) short is slash backslash = omega (arith, short)

no_mark : (folder : List ℕ) → ((f : List ℕ) → folder ≢ f ++ 47 ∷ []) → ((f : List ℕ) → folder ≢ f ++ 92 ∷ []) → ends_in_mark folder ≡ true → ⊥
no_mark folder slash backslash e =
    let k = length folder - 1 in
    let short : length (drop k folder) ≤ 1 = let n = length-drop k folder in omega (arith, n) in
    let whole = take-append-drop k folder in
    last_is (take k folder) (drop k folder) short e (λ f same. slash f (sym whole ∙ same)) (λ f same. backslash f (sym whole ∙ same))

-- a folder without a mark is itself
pub unmarked : (folder : List ℕ) → ((f : List ℕ) → folder ≢ f ++ 47 ∷ []) → ((f : List ℕ) → folder ≢ f ++ 92 ∷ []) → folder ≡ without_end_mark folder
unfolding without_end_mark
unmarked folder slash backslash = elim (ends_in_mark folder) as (λ b. ends_in_mark folder ≡ b → folder ≡ without_end_mark folder) [
  | true ↦ λ e. absurd (no_mark folder slash backslash e)
  | false ↦ λ e. rw e refl
] refl
