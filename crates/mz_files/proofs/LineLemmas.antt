-- Lines that are cut out of a list.
use Rattle.std.proofs.Common.{◌≡◌, ℕ, ◌-◌, List, length, take, drop, min, ap, ◌∙◌, arith, length-drop}
use Rattle.std.proofs.lemmas.List.{take_all, take_min}

-- the first items of what stands from a place on
pub first_from : (xs : List ℕ) (start most count : ℕ) → count ≡ min most (length (take (length xs - start) (drop start xs)))
    → take count (take (length xs - start) (drop start xs)) ≡ take most (drop start xs)
first_from xs start most count is =
    let rest : List ℕ = take (length xs - start) (drop start xs) in
    ap (λ k. take k rest) is
    ∙ take_min most rest
    ∙ ap (take most) (take_all (length xs - start) (drop start xs) (omega (arith, length-drop start xs)))
