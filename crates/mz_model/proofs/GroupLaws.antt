-- Laws of many lists in one.
use Rattle.std.proofs.Common.{◌≡◌, ℕ, zero, suc, ◌+◌, ◌-◌, ◌<◌, ◌≤◌, List, [], ◌∷◌, ◌++◌, length, get_or, take, drop, refl, ap, sym, ◌∙◌, arith, inl, inr, length-append, length-drop}
use Rattle.std.proofs.lemmas.Bool.{cases_lt}
use Rattle.std.specs.List.{slice_range}
use Rattle.std.proofs.lemmas.List.{get_or_append_left, get_or_at, take-append-le, drop-append-le, drop_at, take_all}
use Rattle.mz_num.specs.Places.{list_below}
use Rattle.mz_model.specs.Groups.{groups_of, IsCut}
use Rattle.mz_num.proofs.PlaceLaws.{length-list_below, get_or-list_below, list_below-more, list_below-same}

cut_le_by : (m : ℕ) (starts : List ℕ) (n k : ℕ) → IsCut starts n → k + m + 1 ≡ length starts → get_or starts k 0 ≤ n
cut_le_by zero starts n k cut at = let e : k ≡ length starts - 1 = omega arith in let last : get_or starts k 0 ≡ get_or starts (length starts - 1) 0 = ap (λ i. get_or starts i 0) e in omega (arith, cut.last)
cut_le_by (suc m) starts n k cut at = let next : get_or starts (k + 1) 0 ≤ n = cut_le_by m starts n (k + 1) cut (omega arith) in omega (arith, cut.rising k (omega arith))

-- no start is past the items
pub cut-le : (starts : List ℕ) (n k : ℕ) → IsCut starts n → k < length starts → get_or starts k 0 ≤ n
cut-le starts n k cut h = cut_le_by (length starts - 1 - k) starts n k cut (omega arith)

pub length-groups_of : {X : Type 0} (starts : List ℕ) (items : List X) → length (groups_of starts items) ≡ length starts - 1
length-groups_of starts items = length-list_below (length starts - 1) (λ k. slice_range items (get_or starts k 0) (get_or starts (k + 1) 0))

pub get_or-groups_of : {X : Type 0} (starts : List ℕ) (items : List X) (k : ℕ) → k < length (groups_of starts items) → get_or (groups_of starts items) k [] ≡ take (get_or starts (k + 1) 0 - get_or starts k 0) (drop (get_or starts k 0) items)
get_or-groups_of starts items k h = get_or-list_below (length starts - 1) k (λ k. slice_range items (get_or starts k 0) (get_or starts (k + 1) 0)) [] (omega (arith, length-groups_of starts items))

-- a part of the front is that part of the whole
slice_range-append : {X : Type 0} (xs ys : List X) (a b : ℕ) → a ≤ b → b ≤ length xs → slice_range (xs ++ ys) a b ≡ slice_range xs a b
slice_range-append xs ys a b order inside =
    let near : a ≤ length xs = omega arith in
    let part : b - a ≤ length (drop a xs) = omega (arith, length-drop a xs) in
    ap (take (b - a)) (drop-append-le a xs ys near) ∙ take-append-le (b - a) (drop a xs) ys part

-- the part behind the front
slice_range-behind : {X : Type 0} (xs ys : List X) (n : ℕ) → n ≡ length xs + length ys → slice_range (xs ++ ys) (length xs) n ≡ ys
slice_range-behind xs ys n e = ap (take (n - length xs)) (drop_at xs ys (length xs) refl) ∙ take_all (n - length xs) ys (omega arith)

pub groups_of-push : {X : Type 0} (starts : List ℕ) (items list : List X) (end : ℕ) → IsCut starts (length items) → end ≡ length items + length list → groups_of (starts ++ end ∷ []) (items ++ list) ≡ groups_of starts items ++ list ∷ []
groups_of-push {X} starts items list end cut e =
    let n : ℕ = length starts - 1 in
    let f : ℕ → List X = λ k. slice_range items (get_or starts k 0) (get_or starts (k + 1) 0) in
    let g : ℕ → List X = λ k. slice_range (items ++ list) (get_or (starts ++ end ∷ []) k 0) (get_or (starts ++ end ∷ []) (k + 1) 0) in
    let count : length (starts ++ end ∷ []) - 1 ≡ n + 1 = omega (arith, length-append starts (end ∷ []), cut.some_start) in
    let low : list_below n g ≡ list_below n f = list_below-same n g f [] (λ k h.
    let here : get_or (starts ++ end ∷ []) k 0 ≡ get_or starts k 0 = get_or_append_left starts (end ∷ []) 0 k (omega arith) in
    let there : get_or (starts ++ end ∷ []) (k + 1) 0 ≡ get_or starts (k + 1) 0 = get_or_append_left starts (end ∷ []) 0 (k + 1) (omega arith) in
    ap (λ a. slice_range (items ++ list) a (get_or (starts ++ end ∷ []) (k + 1) 0)) here ∙ ap (λ b. slice_range (items ++ list) (get_or starts k 0) b) there
    ∙ slice_range-append items list (get_or starts k 0) (get_or starts (k + 1) 0) (cut.rising k (omega arith)) (cut-le starts (length items) (k + 1) cut (omega arith))) in
    let from : get_or (starts ++ end ∷ []) n 0 ≡ length items = get_or_append_left starts (end ∷ []) 0 n (omega (arith, cut.some_start)) ∙ cut.last in
    let upto : get_or (starts ++ end ∷ []) (n + 1) 0 ≡ end = get_or_at starts end [] 0 (n + 1) (omega (arith, cut.some_start)) in
    let top : g n ≡ list = ap (λ a. slice_range (items ++ list) a (get_or (starts ++ end ∷ []) (n + 1) 0)) from ∙ ap (λ b. slice_range (items ++ list) (length items) b) upto ∙ slice_range-behind items list end e in
    ap (λ m. list_below m g) count ∙ list_below-more n g ∙ ap (λ xs. xs ++ g n ∷ []) low ∙ ap (λ x. list_below n f ++ x ∷ []) top

pub cut-push : (starts : List ℕ) (n end : ℕ) → IsCut starts n → n ≤ end → IsCut (starts ++ end ∷ []) end
cut-push starts n end cut h =
    let len : length (starts ++ end ∷ []) ≡ length starts + 1 = length-append starts (end ∷ []) in
    record {
      some_start = omega arith;
      rising = λ k below.
          elim (cases_lt (k + 1) (length starts)) [
            | inl inside ↦ (
                let here : get_or (starts ++ end ∷ []) k 0 ≡ get_or starts k 0 = get_or_append_left starts (end ∷ []) 0 k (omega arith) in
                let there : get_or (starts ++ end ∷ []) (k + 1) 0 ≡ get_or starts (k + 1) 0 = get_or_append_left starts (end ∷ []) 0 (k + 1) inside in
                omega (arith, cut.rising k inside))
            | inr outside ↦ (
                let here : get_or (starts ++ end ∷ []) k 0 ≡ get_or starts k 0 = get_or_append_left starts (end ∷ []) 0 k (omega arith) in
                let there : get_or (starts ++ end ∷ []) (k + 1) 0 ≡ end = get_or_at starts end [] 0 (k + 1) (omega arith) in
                omega (arith, cut-le starts n k cut (omega arith)))
          ];
      last = get_or_at starts end [] 0 (length (starts ++ end ∷ []) - 1) (omega arith);
    }

-- the list of a place, as a part of the items
pub record IsGroup {X : Type 0} (starts : List ℕ) (items : List X) (place : ℕ) (group : List X) : Type 0 where
  pub next : place + 1 < length starts
  pub rising : get_or starts place 0 ≤ get_or starts (place + 1) 0
  pub inside : get_or starts (place + 1) 0 ≤ length items
  pub part : take (get_or starts (place + 1) 0 - get_or starts place 0) (drop (get_or starts place 0) items) ≡ group

pub group_is : {X : Type 0} (starts : List ℕ) (items : List X) (groups : List (List X)) (place : ℕ) → IsCut starts (length items) → groups_of starts items ≡ groups → place < length groups → IsGroup starts items place (get_or groups place [])
group_is starts items groups place cut e h =
    let len : length (groups_of starts items) ≡ length groups = ap length e in
    let near : place + 1 < length starts = omega (arith, length-groups_of starts items, cut.some_start) in
    record {
      next = near;
      rising = cut.rising place near;
      inside = cut-le starts (length items) (place + 1) cut near;
      part = sym (get_or-groups_of starts items place (omega arith)) ∙ ap (λ xs. get_or xs place []) e;
    }

-- one more list, behind the items so far
pub groups_of_pushed : {X : Type 0} (starts starts' : List ℕ) (items items' list : List X) (end : ℕ) (groups : List (List X)) → IsCut starts (length items) → groups_of starts items ≡ groups → starts' ≡ starts ++ end ∷ [] → items' ≡ items ++ list → end ≡ length items' → groups_of starts' items' ≡ groups ++ list ∷ []
groups_of_pushed {X} starts starts' items items' list end groups cut now more longer e =
    let len : end ≡ length items + length list = e ∙ ap length longer ∙ length-append items list in
    ap (λ s. groups_of s items') more ∙ ap (λ i. groups_of (starts ++ end ∷ []) i) longer ∙ groups_of-push starts items list end cut len ∙ ap (λ gs. gs ++ list ∷ []) now
