-- Values by place, while rows give them one by one.
use Rattle.std.proofs.Common.{◌≡◌, ℕ, ◌<◌, ◌==◌, Bool, true, false, cond, List, [], ◌∷◌, ◌++◌, length, get_or, set, map, Option, Some, None, refl, ap, sym, ◌∙◌, inl, inr}
use Rattle.std.specs.Prelude.{◌||◌, is_some, option_map, unwrap_or}
use Rattle.std.specs.List.{find, list_any}
use Rattle.std.proofs.Math.ListN.{replicate}
use Rattle.std.proofs.lemmas.Bool.{cases_eq, eq-eqb, ne_eqb}
use Rattle.std.proofs.lemmas.List.{map_push}
use Rattle.std.proofs.lemmas.List.Folds.{list_any-append}
use Rattle.mz_tables.specs.Ids.{has_id}
use Rattle.mz_num.specs.Places.{list_below}
use Rattle.mz_num.proofs.PlaceLaws.{get_or-list_below, list_below-from, list_below-set, replicate-list_below}
use Rattle.mz_rows.specs.Keyed.{value_at, values_below}

-- ---- the row that has a key

pub eqb-sym : (a b : ℕ) → (a == b) ≡ (b == a)
eqb-sym a b = elim (cases_eq a b) [ inl e ↦ eq-eqb a b e ∙ sym (eq-eqb b a (sym e)) | inr ne ↦ ne_eqb a b ne ∙ sym (ne_eqb b a (λ e. ne (sym e))) ]

pub has_id-map : {Item : Type 0} (key : Item → ℕ) (items : List Item) (k : ℕ) → has_id (map key items) k ≡ list_any (λ item. key item == k) items
has_id-map key [] k = refl
has_id-map key (item ∷ items) k = ap (λ b. b || has_id (map key items) k) (eqb-sym k (key item)) ∙ ap (λ b. key item == k || b) (has_id-map key items k)

has_first : {Item : Type 0} (value : Item → ℕ) (b rest : Bool) (item : Item) (found : Option Item) → is_some (option_map value found) ≡ rest → is_some (option_map value (cond b (Some item) found)) ≡ (b || rest)
has_first value true rest item found e = refl
has_first value false rest item found e = e

-- a place has a value where a row has it as its key
pub is_some-value_at : {Item : Type 0} (key value : Item → ℕ) (items : List Item) (k : ℕ) → is_some (value_at key value items k) ≡ list_any (λ item. key item == k) items
is_some-value_at key value [] k = refl
is_some-value_at {Item} key value (item ∷ items) k = has_first value (key item == k) (list_any (λ item. key item == k) items) item (find (λ (i : Item). key i == k) items) (is_some-value_at key value items k)

-- one more row, behind the others
more_first : {Item : Type 0} (value : Item → ℕ) (b : Bool) (item : Item) (found more : Option Item) (last : Option ℕ) → option_map value more ≡ cond (is_some (option_map value found)) (option_map value found) last → option_map value (cond b (Some item) more) ≡ cond (is_some (option_map value (cond b (Some item) found))) (option_map value (cond b (Some item) found)) last
more_first value true item found more last e = refl
more_first value false item found more last e = e

only_last : {Item : Type 0} (value : Item → ℕ) (b : Bool) (item : Item) → option_map value (cond b (Some item) None) ≡ cond b (Some (value item)) None
only_last value true item = refl
only_last value false item = refl

value_at-append : {Item : Type 0} (key value : Item → ℕ) (items : List Item) (item : Item) (k : ℕ) → value_at key value (items ++ item ∷ []) k ≡ cond (is_some (value_at key value items k)) (value_at key value items k) (cond (key item == k) (Some (value item)) None)
value_at-append key value [] item k = only_last value (key item == k) item
value_at-append {Item} key value (first ∷ items) item k = more_first value (key first == k) first (find (λ (i : Item). key i == k) items) (find (λ (i : Item). key i == k) (items ++ item ∷ [])) (cond (key item == k) (Some (value item)) None) (value_at-append key value items item k)

kept : (found : Option ℕ) → cond (is_some found) found None ≡ found
kept None = refl
kept (Some value) = refl

value_at-other : {Item : Type 0} (key value : Item → ℕ) (items : List Item) (item : Item) (k : ℕ) → (k ≡ key item → ⊥) → value_at key value (items ++ item ∷ []) k ≡ value_at key value items k
value_at-other key value items item k other =
    value_at-append key value items item k
    ∙ ap (λ b. cond (is_some (value_at key value items k)) (value_at key value items k) (cond b (Some (value item)) None)) (ne_eqb (key item) k (λ e. other (sym e)))
    ∙ kept (value_at key value items k)

value_at-new : {Item : Type 0} (key value : Item → ℕ) (items : List Item) (item : Item) → has_id (map key items) (key item) ≡ false → value_at key value (items ++ item ∷ []) (key item) ≡ Some (value item)
value_at-new key value items item new =
    value_at-append key value items item (key item)
    ∙ ap (λ b. cond b (value_at key value items (key item)) (cond (key item == key item) (Some (value item)) None)) (is_some-value_at key value items (key item) ∙ sym (has_id-map key items (key item)) ∙ new)
    ∙ ap (λ b. cond b (Some (value item)) None) (eq-eqb (key item) (key item) refl)

-- ---- values and marks by place, as a loop keeps them

-- the places that have a value are marked
abbrev pub AreMarks : {Item : Type 0} → ℕ → (Item → ℕ) → List Item → List Bool → Type 0
AreMarks n key items marks = marks ≡ list_below n (λ k. has_id (map key items) k)

pub marks-none : {Item : Type 0} (n : ℕ) (key : Item → ℕ) (marks : List Bool) → marks ≡ replicate n false → AreMarks n key [] marks
marks-none {Item} n key marks e = e ∙ replicate-list_below n (λ k. has_id (map key []) k) false false (λ k h. refl)

pub marks-at : {Item : Type 0} (n : ℕ) (key : Item → ℕ) (items : List Item) (marks : List Bool) (k : ℕ) (d mark : Bool) → AreMarks n key items marks → k < n → mark ≡ get_or marks k d → has_id (map key items) k ≡ mark
marks-at n key items marks k d mark are h at = sym (get_or-list_below n k (λ k. has_id (map key items) k) d h) ∙ ap (λ (ms : List Bool). get_or ms k d) (sym are) ∙ sym at

marked_more : {Item : Type 0} (key : Item → ℕ) (items : List Item) (item : Item) (k : ℕ) → has_id (map key (items ++ item ∷ [])) k ≡ (has_id (map key items) k || (k == key item || false))
marked_more key items item k = ap (λ (ks : List ℕ). has_id ks k) (map_push key items item) ∙ list_any-append (λ other. k == other) (map key items) (key item ∷ [])

or_true : (a b : Bool) → b ≡ true → true ≡ (a || (b || false))
or_true true b e = refl
or_true false b e = ap (λ c. c || false) (sym e)

or_false : (a b : Bool) → b ≡ false → a ≡ (a || (b || false))
or_false true b e = refl
or_false false b e = ap (λ c. c || false) (sym e)

pub marks-more : {Item : Type 0} (n : ℕ) (key : Item → ℕ) (items : List Item) (item : Item) (marks marks' : List Bool) → AreMarks n key items marks → key item < n → marks' ≡ set marks (key item) true → AreMarks n key (items ++ item ∷ []) marks'
marks-more n key items item marks marks' are h e =
    e ∙ ap (λ (ms : List Bool). set ms (key item) true) are
    ∙ list_below-set n (key item) (λ k. has_id (map key items) k) (λ k. has_id (map key (items ++ item ∷ [])) k) true false h
    (or_true (has_id (map key items) (key item)) (key item == key item) (eq-eqb (key item) (key item) refl) ∙ sym (marked_more key items item (key item)))
    (λ k below other. or_false (has_id (map key items) k) (k == key item) (ne_eqb k (key item) other) ∙ sym (marked_more key items item k))

-- no row gives a value yet
pub values-none : {Item : Type 0} (n : ℕ) (key value : Item → ℕ) (default : ℕ → ℕ) (values : List ℕ) → length values ≡ n → ((k : ℕ) → k < n → get_or values k 0 ≡ default k) → values ≡ values_below n key value default []
values-none n key value default values len at = list_below-from n (λ k. default k) values 0 len at

-- a row gives the value of a place that has none
pub values-more : {Item : Type 0} (n : ℕ) (key value : Item → ℕ) (default : ℕ → ℕ) (items : List Item) (item : Item) (values values' : List ℕ) → values ≡ values_below n key value default items → key item < n → has_id (map key items) (key item) ≡ false → values' ≡ set values (key item) (value item) → values' ≡ values_below n key value default (items ++ item ∷ [])
values-more n key value default items item values values' are h new e =
    e ∙ ap (λ (vs : List ℕ). set vs (key item) (value item)) are
    ∙ list_below-set n (key item) (λ k. unwrap_or (value_at key value items k) (default k)) (λ k. unwrap_or (value_at key value (items ++ item ∷ []) k) (default k)) (value item) 0 h
    (ap (λ (o : Option ℕ). unwrap_or o (default (key item))) (sym (value_at-new key value items item new)))
    (λ k below other. ap (λ (o : Option ℕ). unwrap_or o (default k)) (sym (value_at-other key value items item k other)))
