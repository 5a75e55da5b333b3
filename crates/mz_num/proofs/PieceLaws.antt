-- Texts put together from pieces.
use Rattle.std.proofs.Common.{◌≡◌, ℕ, ◌+◌, List, [], ◌∷◌, ◌++◌, sym, ap, ◌∙◌, append_assoc}
use Rattle.std.specs.List.{concat}
use Rattle.std.proofs.lemmas.List.{append-nil}
use Rattle.std.proofs.lemmas.List.Folds.{concat-append}
use Rattle.mz_num.specs.Places.{list_below}
use Rattle.mz_num.proofs.PlaceLaws.{list_below-more}

-- one piece more
pub pieces_more : (n : ℕ) (f : ℕ → List ℕ) (first before after : List ℕ)
    → before ≡ first ++ concat (list_below n f) → after ≡ before ++ f n
    → after ≡ first ++ concat (list_below (n + 1) f)
pieces_more n f first before after so_far one =
    one
    ∙ ap (λ text. text ++ f n) so_far
    ∙ append_assoc first (concat (list_below n f)) (f n)
    ∙ ap (λ text. first ++ text) (
    ap (λ last. concat (list_below n f) ++ last) (sym (append-nil (f n)))
    ∙ sym (concat-append (list_below n f) (f n ∷ []))
    ∙ ap concat (sym (list_below-more n f)))
