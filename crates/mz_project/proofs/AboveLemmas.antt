-- Lists in which a number is above the limit.
use Rattle.std.proofs.Common.{◌≡◌, ℕ, ◌^◌, ◌<◌, ◌≤◌, true, false, List, length, get_or}
use Rattle.std.specs.Prelude.{slice_index}
use Rattle.std.specs.List.{All, list_any}
use Rattle.std.proofs.lemmas.Bool.{lt-ltb, le-ltb}
use Rattle.std.proofs.lemmas.List.Elements.{All-weaker}
use Rattle.std.proofs.lemmas.List.Folds.{list_any_at, list_any_none}
use Rattle.mz_project.specs.Limits.{is_above}

-- of things that have a number each
pub some_thing_above : {X : Type 0} (f : X → ℕ) (xs : List X) (k : ℕ) (d : X) → k < length xs → 10 ^ 18 < f (get_or xs k d) → list_any (λ x. is_above (f x)) xs ≡ true
some_thing_above f xs k d within above = list_any_at (λ x. is_above (f x)) xs k d within (lt-ltb (10 ^ 18) (f (get_or xs k d)) above)

pub no_thing_above : {X : Type 0} (f : X → ℕ) (xs : List X) → All (λ x. f x ≤ 10 ^ 18) xs → list_any (λ x. is_above (f x)) xs ≡ false
no_thing_above f xs small = list_any_none (λ x. is_above (f x)) xs (All-weaker (λ x. f x ≤ 10 ^ 18) (λ x. is_above (f x) ≡ false) (λ x low. le-ltb (10 ^ 18) (f x) low) xs small)

-- of numbers
pub some_above : (xs : List ℕ) (k : ℕ) → k < length xs → 10 ^ 18 < slice_index xs k → list_any is_above xs ≡ true
some_above xs k within above = some_thing_above (λ n. n) xs k 0 within above

pub none_above : (xs : List ℕ) → All (λ n. n ≤ 10 ^ 18) xs → list_any is_above xs ≡ false
none_above xs small = no_thing_above (λ n. n) xs small
