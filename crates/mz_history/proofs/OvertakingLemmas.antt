-- Which entry overtakes a reading.
use Rattle.std.proofs.Common.{◌≡◌, ℕ, ◌+◌, ◌==◌, Bool, true, false, List, [], ◌∷◌, ◌++◌, map, Option, Some, None, refl, sym, ap, ◌∙◌, inl, inr}
use Rattle.std.specs.Prelude.{◌||◌, ◌&&◌, not}
use Rattle.std.specs.List.{last_or, list_any}
use Rattle.std.proofs.lemmas.Bool.{cases_eq, cond-true, cond-false, eq-eqb, ne_eqb}
use Rattle.std.proofs.lemmas.List.{append-nil}
use Rattle.std.proofs.lemmas.List.Folds.{list_any-append}
use Rattle.mz_num.specs.Places.{places_below}
use Rattle.mz_num.proofs.PlaceLaws.{places_below-more}
use Rattle.mz_model.specs.declared.neighbour.Neighbour.{Neighbour}
use Rattle.mz_model.specs.declared.parts.Parts.{Parts}
use Rattle.mz_model.specs.Boundary.{neighbours_of}
use Rattle.mz_model.specs.Items.{Item, items_of, row_item, unit_item}
use Rattle.mz_model.specs.Targets.{gain_of, touched_rows}
use Rattle.mz_history.specs.declared.entry.Entry.{Entry}
use Rattle.mz_history.specs.Items.{changes, changes_around}

-- ---- what an entry changes

eqb-sym : (a b : ℕ) → (a == b) ≡ (b == a)
eqb-sym a b = elim (cases_eq a b) [ inl e ↦ eq-eqb a b e ∙ sym (eq-eqb b a (sym e)) | inr ne ↦ ne_eqb a b ne ∙ sym (ne_eqb b a (λ e. ne (sym e))) ]

list_any-map : {X Y : Type 0} (p : Y → Bool) (f : X → Y) (xs : List X) → list_any p (map f xs) ≡ list_any (λ x. p (f x)) xs
list_any-map p f [] = refl
list_any-map p f (x ∷ xs) = ap (λ b. p (f x) || b) (list_any-map p f xs)

list_any-same : {X : Type 0} (p q : X → Bool) (xs : List X) → ((x : X) → p x ≡ q x) → list_any p xs ≡ list_any q xs
list_any-same p q [] same = refl
list_any-same p q (x ∷ xs) same = ap (λ b. b || list_any p xs) (same x) ∙ ap (λ b. q x || b) (list_any-same p q xs same)

abbrev pub row_changed : Parts → Entry → ℕ → Bool
row_changed parts entry row = not (gain_of parts row entry.unit entry.old == gain_of parts row entry.unit entry.new)

-- a refused entry changes nothing
refused : (parts : Parts) (entry : Entry) → entry.accepted ≡ false → (item : Item) → changes parts entry item ≡ false
refused parts entry e (unit_item unit) = ap (λ b. b && entry.unit == unit) e
refused parts entry e (row_item row) = ap (λ b. b && row_changed parts entry row) e

none : {X : Type 0} (xs : List X) → list_any (λ x. false) xs ≡ false
none [] = refl
none (x ∷ xs) = none xs

pub around-refused : (parts : Parts) (unit : ℕ) (entry : Entry) → entry.accepted ≡ false → false ≡ changes_around parts unit entry
around-refused parts unit entry e = sym (list_any-same (changes parts entry) (λ item. false) (items_of parts unit) (refused parts entry e) ∙ none (items_of parts unit))

-- an accepted one changes its unit and the rows in which that gains otherwise
pub around-accepted : (parts : Parts) (unit : ℕ) (entry : Entry) → entry.accepted ≡ true
    → changes_around parts unit entry ≡ ((entry.unit == unit) || (list_any (λ (n : Neighbour). n.unit == entry.unit) (neighbours_of parts unit) || list_any (row_changed parts entry) (touched_rows parts unit)))
unfolding items_of
around-accepted parts unit entry e =
    ap (λ b. (b && entry.unit == unit) || list_any (changes parts entry) (map (λ (n : Neighbour). unit_item n.unit) (neighbours_of parts unit) ++ map row_item (touched_rows parts unit))) e
    ∙ ap (λ b. (entry.unit == unit) || b)
    (list_any-append (changes parts entry) (map (λ (n : Neighbour). unit_item n.unit) (neighbours_of parts unit)) (map row_item (touched_rows parts unit))
    ∙ ap (λ b. b || list_any (changes parts entry) (map row_item (touched_rows parts unit)))
    (list_any-map (changes parts entry) (λ (n : Neighbour). unit_item n.unit) (neighbours_of parts unit) ∙ list_any-same _ _ (neighbours_of parts unit) (λ n. ap (λ b. b && entry.unit == n.unit) e ∙ eqb-sym entry.unit n.unit))
    ∙ ap (λ b. list_any (λ (n : Neighbour). n.unit == entry.unit) (neighbours_of parts unit) || b)
    (list_any-map (changes parts entry) row_item (touched_rows parts unit) ∙ list_any-same _ _ (touched_rows parts unit) (λ row. ap (λ b. b && row_changed parts entry row) e)))

pub around-own : (parts : Parts) (unit : ℕ) (entry : Entry) → entry.accepted ≡ true → entry.unit ≡ unit → true ≡ changes_around parts unit entry
around-own parts unit entry accepted own =
    sym (around-accepted parts unit entry accepted ∙ ap (λ b. b || (list_any (λ (n : Neighbour). n.unit == entry.unit) (neighbours_of parts unit) || list_any (row_changed parts entry) (touched_rows parts unit))) (eq-eqb entry.unit unit own))

or_true : (a c : Bool) → (a || (true || c)) ≡ true
or_true true c = refl
or_true false c = refl

pub around-neighbour : (parts : Parts) (unit : ℕ) (entry : Entry) → entry.accepted ≡ true → list_any (λ (n : Neighbour). n.unit == entry.unit) (neighbours_of parts unit) ≡ true → true ≡ changes_around parts unit entry
around-neighbour parts unit entry accepted beside =
    sym (around-accepted parts unit entry accepted ∙ ap (λ b. (entry.unit == unit) || (b || list_any (row_changed parts entry) (touched_rows parts unit))) beside ∙ or_true (entry.unit == unit) (list_any (row_changed parts entry) (touched_rows parts unit)))

pub around-rows : (parts : Parts) (unit : ℕ) (entry : Entry) (changed : Bool) → entry.accepted ≡ true → (entry.unit ≡ unit → ⊥) → list_any (λ (n : Neighbour). n.unit == entry.unit) (neighbours_of parts unit) ≡ false
    → changed ≡ list_any (row_changed parts entry) (touched_rows parts unit) → changed ≡ changes_around parts unit entry
around-rows parts unit entry changed accepted other apart rows =
    rows ∙ sym (around-accepted parts unit entry accepted ∙ ap (λ b. b || (list_any (λ (n : Neighbour). n.unit == entry.unit) (neighbours_of parts unit) || list_any (row_changed parts entry) (touched_rows parts unit))) (ne_eqb entry.unit unit other)
    ∙ ap (λ b. b || list_any (row_changed parts entry) (touched_rows parts unit)) apart)

-- ---- the last that overtakes

last_or-push : (o : Option ℕ) (xs : List ℕ) (x : ℕ) → last_or o (xs ++ x ∷ []) ≡ Some x
last_or-push o [] x = refl
last_or-push o (y ∷ ys) x = last_or-push (Some y) ys x

pub last-more : (n : ℕ) (test : ℕ → Bool) → test n ≡ true → Some n ≡ last_or None (places_below (n + 1) test)
last-more n test passes = sym (ap (last_or None) (places_below-more n test ∙ ap (λ ys. places_below n test ++ ys) (cond-true (test n) (n ∷ []) [] passes)) ∙ last_or-push None (places_below n test) n)

pub last-same : (n : ℕ) (test : ℕ → Bool) (last : Option ℕ) → last ≡ last_or None (places_below n test) → test n ≡ false → last ≡ last_or None (places_below (n + 1) test)
last-same n test last so_far fails = so_far ∙ ap (last_or None) (sym (places_below-more n test ∙ ap (λ ys. places_below n test ++ ys) (cond-false (test n) (n ∷ []) [] fails) ∙ append-nil (places_below n test)))
