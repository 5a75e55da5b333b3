-- Laws of lists by place that are filled in any order, each within the room that was counted for it.
use Rattle.std.proofs.Common.{◌≡◌, ℕ, zero, suc, ◌+◌, ◌-◌, ◌<◌, ◌≤◌, List, [], ◌∷◌, ◌++◌, length, get_or, set, take, drop, map, refl, ap, sym, ◌∙◌, subst, arith, inl, inr}
use Rattle.std.specs.List.{slice_range, sum_by}
use Rattle.std.proofs.lemmas.Bool.{cases_eq, cases_lt}
use Rattle.std.proofs.lemmas.List.{get_or_read, get_or-map, get_or-set_other, get_or-set_same, length-drop, length-set, length-take-le, drop-set-add, drop-set-lt, take-set-le, take_more_set}
use Rattle.std.proofs.lemmas.List.Sums.{sum_by_more}
use Rattle.mz_model.specs.Groups.{Filling, IsCut, IsFilling, filling_of, groups_of, lists_upto, room_of}
use Rattle.mz_num.specs.Places.{list_below}
use Rattle.mz_num.proofs.PlaceLaws.{length-list_below, get_or-list_below, list_below-from, list_below-more, list_below-same, list_below-set}
use Rattle.mz_model.proofs.GroupLaws.{cut-le}

-- ---- where the lists start

-- the sum of the counts before a place
abbrev pub before : List ℕ → ℕ → ℕ
before counts k = sum_by (λ count. count) (take k counts)

pub before-more : (counts : List ℕ) (k : ℕ) → k < length counts → before counts (k + 1) ≡ before counts k + get_or counts k 0
before-more counts k h = sum_by_more (λ count. count) counts k 0 h

-- one more start
pub starts-more : (counts ends ends' : List ℕ) (i total : ℕ) → ends ≡ list_below i (before counts) → total ≡ before counts i → ends' ≡ ends ++ total ∷ [] → ends' ≡ list_below (i + 1) (before counts)
starts-more counts ends ends' i total so_far e more = more ∙ ap (λ es. es ++ total ∷ []) so_far ∙ ap (λ t. list_below i (before counts) ++ t ∷ []) e ∙ sym (list_below-more i (before counts))

at_start : (n k : ℕ) (counts : List ℕ) → k < n → get_or (list_below n (before counts)) k 0 ≡ before counts k
at_start n k counts h = get_or-list_below n k (before counts) 0 h

-- with no list begun
pub opened : (counts starts ends : List ℕ) (n total : ℕ) → n ≡ length counts → starts ≡ list_below (n + 1) (before counts) → ends ≡ list_below n (before counts) → total ≡ before counts n → IsFilling starts ends total
opened counts starts ends n total len s e t =
    let many : length starts ≡ n + 1 = ap length s ∙ length-list_below (n + 1) (before counts) in
    let few : length ends ≡ n = ap length e ∙ length-list_below n (before counts) in
    let start : (k : ℕ) → k < n + 1 → get_or starts k 0 ≡ before counts k = λ k h. ap (λ xs. get_or xs k 0) s ∙ at_start (n + 1) k counts h in
    let end : (k : ℕ) → k < n → get_or ends k 0 ≡ before counts k = λ k h. ap (λ xs. get_or xs k 0) e ∙ at_start n k counts h in
    record {
      cut = record {
        some_start = omega arith;
        rising = λ k h. omega (arith, start k (omega arith), start (k + 1) (omega arith), before-more counts k (omega arith));
        last = (let top : length starts - 1 ≡ n = omega arith in ap (λ i. get_or starts i 0) top ∙ start n (omega arith) ∙ sym t);
      };
      places = omega arith;
      begun = λ k h. omega (arith, start k (omega arith), end k (omega arith));
      inside = λ k h. omega (arith, start (k + 1) (omega arith), end k (omega arith), before-more counts k (omega arith));
    }

empty_part : {X : Type 0} (items : List X) (a b : ℕ) → a ≡ b → slice_range items a b ≡ []
empty_part items a b e = let nothing : b - a ≡ 0 = omega arith in ap (λ n. take n (drop a items)) nothing

pub opened-value : {X : Type 0} (counts starts ends : List ℕ) (items : List X) (n : ℕ) → n ≡ length counts → starts ≡ list_below (n + 1) (before counts) → ends ≡ list_below n (before counts)
    → filling_of starts ends items ≡ record { lists = list_below {X = List X} (length counts) (λ k. []); room = counts }
opened-value {X} counts starts ends items n len s e =
    let few : length ends ≡ n = ap length e ∙ length-list_below n (before counts) in
    let start : (k : ℕ) → k < n + 1 → get_or starts k 0 ≡ before counts k = λ k h. ap (λ xs. get_or xs k 0) s ∙ at_start (n + 1) k counts h in
    let end : (k : ℕ) → k < n → get_or ends k 0 ≡ before counts k = λ k h. ap (λ xs. get_or xs k 0) e ∙ at_start n k counts h in
    let lists : lists_upto starts ends items ≡ list_below {X = List X} (length counts) (λ k. []) =
    ap (λ m. list_below m (λ k. slice_range items (get_or starts k 0) (get_or ends k 0))) (few ∙ len)
    ∙ list_below-same {X = List X} (length counts) (λ k. slice_range items (get_or starts k 0) (get_or ends k 0)) (λ k. []) [] (λ k h. empty_part items (get_or starts k 0) (get_or ends k 0) (omega (arith, start k (omega arith), end k (omega arith)))) in
    let room : room_of starts (length ends) ≡ counts =
    ap (λ m. room_of starts m) (few ∙ len)
    ∙ sym (list_below-from (length counts) (λ k. get_or starts (k + 1) 0 - get_or starts k 0) counts 0 refl (λ k h. omega (arith, start k (omega arith), start (k + 1) (omega arith), before-more counts k h))) in
    λ i. record { lists = lists i; room = room i }

-- ---- one more item

cut_mono_by : (m : ℕ) (starts : List ℕ) (count j : ℕ) → IsCut starts count → j + m < length starts → get_or starts j 0 ≤ get_or starts (j + m) 0
cut_mono_by zero starts count j cut h = omega (arith, ap (λ i. get_or starts i 0) (let e : j + 0 ≡ j = omega arith in e))
cut_mono_by (suc m) starts count j cut h =
    let low : get_or starts j 0 ≤ get_or starts (j + m) 0 = cut_mono_by m starts count j cut (omega arith) in
    let step : get_or starts (j + m) 0 ≤ get_or starts (j + m + 1) 0 = cut.rising (j + m) (omega arith) in
    let e : j + suc m ≡ j + m + 1 = omega arith in
    omega (arith, ap (λ i. get_or starts i 0) e)

cut-mono : (starts : List ℕ) (count i j : ℕ) → IsCut starts count → i ≤ j → j < length starts → get_or starts i 0 ≤ get_or starts j 0
cut-mono starts count i j cut h inside =
    let e : i + (j - i) ≡ j = omega arith in
    omega (arith, cut_mono_by (j - i) starts count i cut (omega arith), ap (λ k. get_or starts k 0) e)

-- what a place with room says of the code's numbers
pub record IsOpen (starts ends : List ℕ) (count place : ℕ) : Type 0 where
  pub place_in : place < length ends
  pub below : get_or ends place 0 < get_or starts (place + 1) 0
  pub item_in : get_or ends place 0 < count

length-part : {X : Type 0} (items : List X) (a b : ℕ) → a ≤ b → b ≤ length items → length (slice_range items a b) ≡ b - a
length-part items a b h i = length-take-le (b - a) (drop a items) (omega (arith, length-drop a items))

lists-at : {X : Type 0} (starts ends : List ℕ) (items : List X) (k : ℕ) → k < length ends → get_or (lists_upto starts ends items) k [] ≡ slice_range items (get_or starts k 0) (get_or ends k 0)
lists-at starts ends items k h = get_or-list_below (length ends) k (λ j. slice_range items (get_or starts j 0) (get_or ends j 0)) [] h

room-at : (starts : List ℕ) (n k : ℕ) → k < n → get_or (room_of starts n) k 0 ≡ get_or starts (k + 1) 0 - get_or starts k 0
room-at starts n k h = get_or-list_below n k (λ j. get_or starts (j + 1) 0 - get_or starts j 0) 0 h

end-le : (starts ends : List ℕ) (count k : ℕ) → IsFilling starts ends count → k < length ends → get_or ends k 0 ≤ count
end-le starts ends count k is h = omega (arith, is.inside k h, cut-le starts count (k + 1) is.cut (omega (arith, is.places)))

pub open-at : {X : Type 0} (starts ends : List ℕ) (items : List X) (count place : ℕ) (value : Filling X) → count ≡ length items → IsFilling starts ends count → filling_of starts ends items ≡ value
    → place < length value.lists → length (get_or value.lists place []) < get_or value.room place 0 → IsOpen starts ends count place
open-at {X} starts ends items count place value size is e h room =
    let inside : place < length ends = omega (arith, ap (λ (v : Filling X). length v.lists) e, length-list_below (length ends) (λ k. slice_range items (get_or starts k 0) (get_or ends k 0))) in
    let filled : length (get_or value.lists place []) ≡ get_or ends place 0 - get_or starts place 0 =
    ap (λ (v : Filling X). length (get_or v.lists place [])) (sym e) ∙ ap length (lists-at starts ends items place inside)
    ∙ length-part items (get_or starts place 0) (get_or ends place 0) (is.begun place inside) (omega (arith, end-le starts ends count place is inside)) in
    let counted : get_or value.room place 0 ≡ get_or starts (place + 1) 0 - get_or starts place 0 = ap (λ (v : Filling X). get_or v.room place 0) (sym e) ∙ room-at starts (length ends) place inside in
    let below : get_or ends place 0 < get_or starts (place + 1) 0 = omega (arith, is.begun place inside) in
    record { place_in = inside; below = below; item_in = omega (arith, cut-le starts count (place + 1) is.cut (omega (arith, is.places))) }

pub filling-more : (starts ends : List ℕ) (count place : ℕ) → IsFilling starts ends count → IsOpen starts ends count place → IsFilling starts (set ends place (get_or ends place 0 + 1)) count
filling-more starts ends count place is open_ =
    let more : List ℕ = set ends place (get_or ends place 0 + 1) in
    let len : length more ≡ length ends = length-set ends place (get_or ends place 0 + 1) in
    let here : get_or more place 0 ≡ get_or ends place 0 + 1 = get_or-set_same ends place (get_or ends place 0 + 1) 0 open_.place_in in
    record {
      cut = is.cut;
      places = omega (arith, is.places);
      begun = λ k h. elim (cases_eq k place) [
        | inl same ↦ omega (arith, here, ap (λ j. get_or more j 0) same, ap (λ j. get_or starts j 0) same, is.begun place open_.place_in)
        | inr other ↦ omega (arith, get_or-set_other ends place k (get_or ends place 0 + 1) 0 other, is.begun k (omega arith))
      ];
      inside = λ k h. elim (cases_eq k place) [
        | inl same ↦ (let next : k + 1 ≡ place + 1 = omega arith in omega (arith, here, ap (λ j. get_or more j 0) same, ap (λ j. get_or starts j 0) next, open_.below))
        | inr other ↦ omega (arith, get_or-set_other ends place k (get_or ends place 0 + 1) 0 other, is.inside k (omega arith))
      ];
    }

part-more : {X : Type 0} (items : List X) (a b : ℕ) (x : X) → a ≤ b → b < length items → slice_range (set items b x) a (b + 1) ≡ slice_range items a b ++ x ∷ []
part-more items a b x h i =
    let at : b ≡ a + (b - a) = omega arith in
    let far : b + 1 - a ≡ b - a + 1 = omega arith in
    ap (λ n. take n (drop a (set items b x))) far ∙ ap (λ j. take (b - a + 1) (drop a (set items j x))) at ∙ ap (take (b - a + 1)) (drop-set-add a items (b - a) x)
    ∙ take_more_set (drop a items) (b - a) x (omega (arith, length-drop a items))

part-behind : {X : Type 0} (items : List X) (a b i : ℕ) (x : X) → a ≤ b → b ≤ i → slice_range (set items i x) a b ≡ slice_range items a b
part-behind items a b i x h j =
    let at : i ≡ a + (i - a) = omega arith in
    ap (λ k. take (b - a) (drop a (set items k x))) at ∙ ap (take (b - a)) (drop-set-add a items (i - a) x) ∙ take-set-le (b - a) (drop a items) (i - a) x (omega arith)

part-before : {X : Type 0} (items : List X) (a b i : ℕ) (x : X) → i < a → slice_range (set items i x) a b ≡ slice_range items a b
part-before items a b i x h = ap (take (b - a)) (drop-set-lt a items i x h)

pub filling-push : {X : Type 0} (starts ends : List ℕ) (items : List X) (count place : ℕ) (x : X) (value : Filling X) → count ≡ length items → IsFilling starts ends count → filling_of starts ends items ≡ value → IsOpen starts ends count place
    → filling_of starts (set ends place (get_or ends place 0 + 1)) (set items (get_or ends place 0) x) ≡ record value { lists = set value.lists place (get_or value.lists place [] ++ x ∷ []) }
filling-push {X} starts ends items count place x value size is e open_ =
    let end : ℕ = get_or ends place 0 in
    let more : List ℕ = set ends place (end + 1) in
    let f : ℕ → List X = λ k. slice_range items (get_or starts k 0) (get_or ends k 0) in
    let g : ℕ → List X = λ k. slice_range (set items end x) (get_or starts k 0) (get_or more k 0) in
    let len : length more ≡ length ends = length-set ends place (end + 1) in
    let here : get_or more place 0 ≡ end + 1 = get_or-set_same ends place (end + 1) 0 open_.place_in in
    let own : get_or (lists_upto starts ends items) place [] ++ x ∷ [] ≡ g place =
    ap (λ l. l ++ x ∷ []) (lists-at starts ends items place open_.place_in)
    ∙ sym (ap (slice_range (set items end x) (get_or starts place 0)) here ∙ part-more items (get_or starts place 0) end x (is.begun place open_.place_in) (omega (arith, open_.item_in))) in
    let others : (k : ℕ) → k < length ends → (k ≡ place → ⊥) → f k ≡ g k = λ k h other.
    sym (ap (slice_range (set items end x) (get_or starts k 0)) (get_or-set_other ends place k (end + 1) 0 other)
    ∙ elim (cases_lt k place) [
      | inl low ↦ part-behind items (get_or starts k 0) (get_or ends k 0) end x (is.begun k h) (omega (arith, is.inside k h, cut-mono starts count (k + 1) place is.cut (omega arith) (omega (arith, is.places)), is.begun place open_.place_in))
      | inr high ↦ part-before items (get_or starts k 0) (get_or ends k 0) end x (omega (arith, open_.below, cut-mono starts count (place + 1) k is.cut (omega arith) (omega (arith, is.places))))
    ]) in
    let lists : lists_upto starts more (set items end x) ≡ set (lists_upto starts ends items) place (get_or (lists_upto starts ends items) place [] ++ x ∷ []) =
    ap (λ n. list_below n g) len ∙ sym (list_below-set {X = List X} (length ends) place f g (get_or (lists_upto starts ends items) place [] ++ x ∷ []) [] open_.place_in own others) in
    let room : room_of starts (length more) ≡ room_of starts (length ends) = ap (room_of starts) len in
    let pushed : Filling X → Filling X = λ (v : Filling X). record v { lists = set v.lists place (get_or v.lists place [] ++ x ∷ []) } in
    let made : filling_of starts more (set items end x) ≡ pushed (filling_of starts ends items) = λ i. record { lists = lists i; room = room i } in
    made ∙ ap pushed e

-- ---- all full

pub filling-full : {X : Type 0} (starts ends : List ℕ) (items : List X) (value : Filling X) → IsFilling starts ends (length items) → filling_of starts ends items ≡ value → map length value.lists ≡ value.room → groups_of starts items ≡ value.lists
filling-full {X} starts ends items value is e full =
    let n : ℕ = length ends in
    let size : length starts - 1 ≡ n = omega (arith, is.places) in
    let lists : lists_upto starts ends items ≡ value.lists = ap (λ (v : Filling X). v.lists) e in
    let same : map length (lists_upto starts ends items) ≡ room_of starts n = ap (map length) lists ∙ full ∙ ap (λ (v : Filling X). v.room) (sym e) in
    ap (λ m. list_below m (λ k. slice_range items (get_or starts k 0) (get_or starts (k + 1) 0))) size
    ∙ list_below-same {X = List X} n (λ k. slice_range items (get_or starts k 0) (get_or starts (k + 1) 0)) (λ k. slice_range items (get_or starts k 0) (get_or ends k 0)) []
    (λ k h.
    let inside : k < length (lists_upto starts ends items) = omega (arith, length-list_below n (λ j. slice_range items (get_or starts j 0) (get_or ends j 0))) in
    let long : get_or ends k 0 - get_or starts k 0 ≡ get_or starts (k + 1) 0 - get_or starts k 0 =
    sym (length-part items (get_or starts k 0) (get_or ends k 0) (is.begun k h) (end-le starts ends (length items) k is h)) ∙ ap length (sym (lists-at starts ends items k h))
    ∙ sym (get_or-map length (lists_upto starts ends items) k [] 0 inside) ∙ ap (λ xs. get_or xs k 0) same ∙ room-at starts n k h in
    let at : get_or starts (k + 1) 0 ≡ get_or ends k 0 = omega (arith, is.begun k h, is.inside k h) in
    ap (slice_range items (get_or starts k 0)) at)
    ∙ lists

-- ---- as the code finds its numbers

pub end-read : (ends : List ℕ) (place end : ℕ) → place < length ends → end ≡ get_or ends place end → end ≡ get_or ends place 0
end-read ends place end h e = get_or_read ends place end h e 0

pub filling-stored : {X : Type 0} (starts ends : List ℕ) (items : List X) (place end : ℕ) (x : X) → IsFilling starts ends (length items) → IsOpen starts ends (length items) place → end ≡ get_or ends place end → IsFilling starts (set ends place (end + 1)) (length (set items end x))
filling-stored starts ends items place end x is open_ e =
    let at : end ≡ get_or ends place 0 = end-read ends place end open_.place_in e in
    subst (λ n. IsFilling starts (set ends place (end + 1)) n) (sym (length-set items end x))
    (subst (λ n. IsFilling starts (set ends place (n + 1)) (length items)) (sym at) (filling-more starts ends (length items) place is open_))

pub filling-pushed : {X : Type 0} (starts ends : List ℕ) (items : List X) (place end : ℕ) (x : X) (value : Filling X) → IsFilling starts ends (length items) → filling_of starts ends items ≡ value → IsOpen starts ends (length items) place → end ≡ get_or ends place end
    → filling_of starts (set ends place (end + 1)) (set items end x) ≡ record value { lists = set value.lists place (get_or value.lists place [] ++ x ∷ []) }
filling-pushed {X} starts ends items place end x value is e open_ f =
    let at : end ≡ get_or ends place 0 = end-read ends place end open_.place_in f in
    ap (λ n. filling_of starts (set ends place (n + 1)) (set items n x)) at ∙ filling-push starts ends items (length items) place x value refl is e open_

pub stored-inside : (starts ends : List ℕ) (count place end : ℕ) → IsOpen starts ends count place → end ≡ get_or ends place end → end < count
stored-inside starts ends count place end open_ e = omega (arith, end-read ends place end open_.place_in e, open_.item_in)

-- the starts, with the number of items behind them
pub all-starts : (counts ends starts starts' : List ℕ) (n total : ℕ) → ends ≡ list_below n (before counts) → total ≡ before counts n → starts ≡ ends → starts' ≡ starts ++ total ∷ [] → starts' ≡ list_below (n + 1) (before counts)
all-starts counts ends starts starts' n total so_far e same more = starts-more counts starts starts' n total (same ∙ so_far) e more
