-- Laws of a table of lists.
use Rattle.std.proofs.Common.{◌≡◌, ℕ, ◌+◌, ◌<◌, List, [], ◌∷◌, ◌++◌, length, get_or, ap, sym, ◌∙◌, arith}
use Rattle.mz_num.specs.Places.{list_below}
use Rattle.mz_num.proofs.PlaceLaws.{length-list_below, get_or-list_below, list_below-more}

-- a place of a table
pub record IsRow {X : Type 0} (table : List (List X)) (place : ℕ) (row : List X) : Type 0 where
  pub inside : place < length table
  pub is : get_or table place [] ≡ row

pub table-row : {X : Type 0} (table : List (List X)) (n : ℕ) (f : ℕ → List X) (place : ℕ) → table ≡ list_below n f → place < n → IsRow table place (f place)
table-row table n f place e h =
    let len : length table ≡ n = ap length e ∙ length-list_below n f in
    record { inside = omega arith; is = ap (λ ls. get_or ls place []) e ∙ get_or-list_below n place f [] h }

-- one more row of a table
pub table-more : {X : Type 0} (n : ℕ) (f : ℕ → List X) (table table' : List (List X)) (row : List X) → table ≡ list_below n f → row ≡ f n → table' ≡ table ++ row ∷ [] → table' ≡ list_below (n + 1) f
table-more {X} n f table table' row now is more = more ∙ ap (λ ls. ls ++ row ∷ []) now ∙ ap (λ l. list_below n f ++ l ∷ []) is ∙ sym (list_below-more {X = List X} n f)
