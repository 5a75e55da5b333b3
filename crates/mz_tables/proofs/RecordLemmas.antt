-- A record's field at a place, and nothing past its end.
use Rattle.std.proofs.Common.{◌≡◌, ℕ, zero, suc, List, [], ◌∷◌, get_or, ◌<◌, length, arith, Option, Some, None, refl, sym}
use Rattle.csv.specs.Records.{field_at}
use Rattle.csv.proofs.RecordFacts.{field-get}

pub field-some : (fields : List (List ℕ)) (place : ℕ) (field : List ℕ) → Some field ≡ field_at fields place → field ≡ get_or fields place []
field-some fields place field e = sym (field-get fields place field (sym e))

pub field-none : (fields : List (List ℕ)) (place : ℕ) → ◌≡◌ {A = Option (List ℕ)} None (field_at fields place) → ◌≡◌ {A = List ℕ} [] (get_or fields place [])
unfolding field_at
field-none [] place e = refl
field-none (f ∷ fields) zero e = cc
field-none (f ∷ fields) (suc place) e = field-none fields place e

pub field-there : (fields : List (List ℕ)) (place : ℕ) → place < length fields → field_at fields place ≡ Some (get_or fields place [])
unfolding field_at
field-there [] place h = absurd (omega arith)
field-there (f ∷ fields) zero h = refl
field-there (f ∷ fields) (suc place) h = field-there fields place (omega arith)

pub ruleset at_places = (field-some, field-none)
