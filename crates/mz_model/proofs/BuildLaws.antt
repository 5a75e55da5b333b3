-- Laws of the lists that a problem keeps, as they are filled.
use Rattle.std.proofs.Common.{◌≡◌, ℕ, ◌+◌, ◌-◌, zero, suc, ◌*◌, ◌<◌, ◌≤◌, Bool, true, false, cond, List, [], ◌∷◌, ◌++◌, length, get_or, set, take, map, drop, max, Option, None, Some, refl, ap, sym, ◌∙◌, subst, inl, inr, arith, ◌==◌}
use Rattle.std.specs.Prelude.{nat_lt, nat_le, IsSomeAnd}
use Rattle.std.specs.List.{flat_map, filter}
use Rattle.std.proofs.lemmas.Bool.{cases_eq, cases_lt, lt-leb, cond-true, cond-false, eq-eqb, ne_eqb}
use Rattle.std.proofs.lemmas.List.{append-nil, append_assoc, map-append, map_more, take_all, take_more, take-append-drop, get_or-map, get_or-replicate, get_or-set_same, get_or-set_other, length-append, length-map, length-replicate, length-set, same_lists}
use Rattle.std.proofs.Math.ListN.{replicate}
use Rattle.std.proofs.lemmas.List.Concat.{flat_map-append}
use Rattle.std.proofs.lemmas.List.Elements.{filter-append, All-get_or, All-same}
use Rattle.mz_num.specs.Round.{round}
use Rattle.mz_num.proofs.RoundLaws.{round-multiple}
use Rattle.std.proofs.Math.Nat.{mul-le-mul_left}
use Rattle.mz_model.specs.declared.neighbour.Neighbour.{Neighbour}
use Rattle.mz_model.specs.declared.parts.Parts.{Parts}
use Rattle.mz_model.specs.declared.parts.Target.{Target}
use Rattle.mz_model.specs.declared.touch.Touch.{Touch}
use Rattle.mz_model.specs.Amounts.{amount_of, holder_of, holders_of}
use Rattle.mz_model.specs.Boundary.{as_neighbour, ends_of, neighbours_of}
use Rattle.mz_model.specs.Built.{greatest_part_in, greatest_part_of, touching}
use Rattle.mz_model.specs.Groups.{Filling, HasRoom, counts_with, filled}
use Rattle.mz_model.specs.Parts.{unit_count, zone_count, feature_count, target_count, fraction_at, no_target, target_at}
use Rattle.mz_num.specs.Places.{greatest_below, list_below, places_below, values_at}
use Rattle.mz_model.specs.Targets.{as_touch, counted, gain_from, gain_of, amount_for, is_touched, touched_rows, touches_of}
use Rattle.mz_model.specs.Valid.{IsPair, IsValid}
use Rattle.mz_model.proofs.AmountLaws.{values_at-entries_of}
use Rattle.mz_model.proofs.ListLaws.{IsRow, table-row}
use Rattle.mz_num.proofs.PlaceLaws.{length-list_below, get_or-list_below, list_below-from, list_below-same, places_below-more, values_at-append, at-le-greatest_below, greatest_below-le}
use Rattle.mz_model.proofs.Products.{round-positive}

-- ---- lists that are filled

pub length-filled : {X : Type 0} (lists : List (List X)) (entries : List (ℕ × X)) → length (filled lists entries) ≡ length lists
length-filled {X} lists entries = length-list_below {X = List X} (length lists) (λ k. get_or lists k [] ++ values_at k entries)

get_or-filled : {X : Type 0} (lists : List (List X)) (entries : List (ℕ × X)) (k : ℕ) → k < length lists → get_or (filled lists entries) k [] ≡ get_or lists k [] ++ values_at k entries
get_or-filled {X} lists entries k h = get_or-list_below {X = List X} (length lists) k (λ k. get_or lists k [] ++ values_at k entries) [] h

pub filled-none : {X : Type 0} (lists : List (List X)) → lists ≡ filled lists []
filled-none {X} lists = list_below-from {X = List X} (length lists) (λ k. get_or lists k [] ++ values_at {X = X} k []) lists [] refl (λ k h. sym (append-nil (get_or lists k [])))

values_at-push-same : {X : Type 0} (k j : ℕ) (es : List (ℕ × X)) (x : X) → j ≡ k → values_at k (es ++ (j, x) ∷ []) ≡ values_at k es ++ x ∷ []
values_at-push-same {X} k j es x e = values_at-append {X = X} k es ((j, x) ∷ []) ∙ ap (λ vs. values_at k es ++ vs) (cond-true (j == k) (x ∷ []) [] (eq-eqb j k e))

values_at-push-other : {X : Type 0} (k j : ℕ) (es : List (ℕ × X)) (x : X) → (j ≡ k → ⊥) → values_at k (es ++ (j, x) ∷ []) ≡ values_at k es
values_at-push-other {X} k j es x ne = values_at-append {X = X} k es ((j, x) ∷ []) ∙ ap (λ vs. values_at k es ++ vs) (cond-false (j == k) (x ∷ []) [] (ne_eqb j k ne)) ∙ append-nil (values_at k es)

-- one more value, in the list of its place
pub filled-push : {X : Type 0} (start lists lists' : List (List X)) (es : List (ℕ × X)) (j : ℕ) (x : X) → lists ≡ filled start es → j < length start → lists' ≡ set lists j (get_or lists j [] ++ x ∷ []) → lists' ≡ filled start (es ++ (j, x) ∷ [])
filled-push {X} start lists lists' es j x now h pushed =
    let len : length lists ≡ length start = ap length now ∙ length-filled start es in
    let was : (k : ℕ) → k < length start → get_or lists k [] ≡ get_or start k [] ++ values_at k es = λ k i. ap (λ ls. get_or ls k []) now ∙ get_or-filled start es k i in
    list_below-from {X = List X} (length start) (λ k. get_or start k [] ++ values_at k (es ++ (j, x) ∷ [])) lists' []
    (ap length pushed ∙ length-set lists j (get_or lists j [] ++ x ∷ []) ∙ len)
    (λ k i. ap (λ ls. get_or ls k []) pushed
    ∙ elim (cases_eq k j) [
      | inl e ↦ (
          let inside : j < length lists = omega arith in
          ap (λ n. get_or (set lists j (get_or lists j [] ++ x ∷ [])) n []) e ∙ get_or-set_same lists j (get_or lists j [] ++ x ∷ []) [] inside
          ∙ ap (λ n. get_or lists n [] ++ x ∷ []) (sym e) ∙ ap (λ l. l ++ x ∷ []) (was k i)
          ∙ append_assoc (get_or start k []) (values_at k es) (x ∷ []) ∙ ap (λ vs. get_or start k [] ++ vs) (sym (values_at-push-same k j es x (sym e))))
      | inr ne ↦ get_or-set_other lists j k (get_or lists j [] ++ x ∷ []) [] ne ∙ was k i ∙ ap (λ vs. get_or start k [] ++ vs) (sym (values_at-push-other k j es x (λ e. ne (sym e))))
    ])

pub filled-empty : {X : Type 0} (n : ℕ) (es : List (ℕ × X)) → filled (list_below {X = List X} n (λ k. [])) es ≡ list_below n (λ k. values_at k es)
filled-empty {X} n es =
    let empty : List (List X) = list_below {X = List X} n (λ k. []) in
    let len : length empty ≡ n = length-list_below {X = List X} n (λ k. []) in
    ap (λ m. list_below {X = List X} m (λ k. get_or empty k [] ++ values_at k es)) len
    ∙ list_below-same {X = List X} n (λ k. get_or empty k [] ++ values_at k es) (λ k. values_at k es) [] (λ k h. ap (λ l. l ++ values_at k es) (get_or-list_below {X = List X} n k (λ k. []) [] h))

length-values_at-push : {X : Type 0} (k j : ℕ) (es : List (ℕ × X)) (x : X) → j ≡ k → length (values_at k (es ++ (j, x) ∷ [])) ≡ length (values_at k es) + 1
length-values_at-push k j es x e = ap length (values_at-push-same k j es x e) ∙ length-append (values_at k es) (x ∷ [])

-- ---- counts

pub length-counts_with : {X : Type 0} (counts : List ℕ) (entries : List (ℕ × X)) → length (counts_with counts entries) ≡ length counts
length-counts_with counts entries = length-list_below (length counts) (λ k. get_or counts k 0 + length (values_at k entries))

pub counts_with-none : (X : Type 0) (counts : List ℕ) → counts ≡ counts_with {X = X} counts []
counts_with-none X counts = list_below-from (length counts) (λ k. get_or counts k 0 + length (values_at {X = X} k [])) counts 0 refl (λ k h. omega arith)

-- one more at a place
pub counts_with-push : {X : Type 0} (start counts counts' : List ℕ) (es : List (ℕ × X)) (j : ℕ) (x : X) → counts ≡ counts_with start es → j < length start → counts' ≡ set counts j (get_or counts j 0 + 1) → counts' ≡ counts_with start (es ++ (j, x) ∷ [])
counts_with-push {X} start counts counts' es j x now h pushed =
    let len : length counts ≡ length start = ap length now ∙ length-counts_with start es in
    let was : (k : ℕ) → k < length start → get_or counts k 0 ≡ get_or start k 0 + length (values_at k es) = λ k i. ap (λ cs. get_or cs k 0) now ∙ get_or-list_below (length start) k (λ k. get_or start k 0 + length (values_at k es)) 0 i in
    list_below-from (length start) (λ k. get_or start k 0 + length (values_at k (es ++ (j, x) ∷ []))) counts' 0
    (ap length pushed ∙ length-set counts j (get_or counts j 0 + 1) ∙ len)
    (λ k i. ap (λ cs. get_or cs k 0) pushed
    ∙ elim (cases_eq k j) [
      | inl e ↦ ap (λ n. get_or (set counts j (get_or counts j 0 + 1)) n 0) e ∙ get_or-set_same counts j (get_or counts j 0 + 1) 0 (omega arith)
          ∙ (let here : get_or counts j 0 + 1 ≡ get_or start k 0 + length (values_at k (es ++ (j, x) ∷ [])) = omega (arith, was k i, ap (λ n. get_or counts n 0) e, length-values_at-push k j es x (sym e)) in here)
      | inr ne ↦ get_or-set_other counts j k (get_or counts j 0 + 1) 0 ne ∙ was k i ∙ ap (λ vs. get_or start k 0 + length vs) (sym (values_at-push-other k j es x (λ e. ne (sym e))))
    ])

-- the counts of filled lists
pub counted-lengths : {X : Type 0} (lists : List (List X)) (entries : List (ℕ × X)) → counts_with (map length lists) entries ≡ map length (filled lists entries)
counted-lengths {X} lists entries =
    let len : length (map length lists) ≡ length lists = length-map lists length in
    sym (list_below-from (length (map length lists)) (λ k. get_or (map length lists) k 0 + length (values_at k entries)) (map length (filled lists entries)) 0
    (length-map (filled lists entries) length ∙ length-filled lists entries ∙ sym len)
    (λ k h.
    let inside : k < length lists = omega arith in
    get_or-map length (filled lists entries) k [] 0 (omega (arith, length-filled lists entries)) ∙ ap length (get_or-filled lists entries k inside) ∙ length-append (get_or lists k []) (values_at k entries)
    ∙ ap (λ n. n + length (values_at k entries)) (sym (get_or-map length lists k [] 0 inside))))

-- empty lists, one for each place below n
abbrev pub empty_lists : {X : Type 0} → ℕ → List (List X)
empty_lists {X} n = list_below {X = List X} n (λ k. [])

pub length-empty_lists : (X : Type 0) (n : ℕ) → length (empty_lists {X = X} n) ≡ n
length-empty_lists X n = length-list_below {X = List X} n (λ k. [])

pub no_counts : (X : Type 0) (n : ℕ) → replicate n 0 ≡ map length (empty_lists {X = X} n)
no_counts X n = same_lists (replicate n 0) (map length (empty_lists {X = X} n)) (length-replicate {A = ℕ} n 0 ∙ sym (length-map (empty_lists {X = X} n) length ∙ length-empty_lists X n))
    (λ k d h.
    let inside : k < n = omega (arith, length-replicate {A = ℕ} n 0) in
    get_or-replicate {A = ℕ} n k 0 d inside ∙ sym (get_or-map length (empty_lists {X = X} n) k [] d (omega (arith, length-empty_lists X n)) ∙ ap length (get_or-list_below {X = List X} n k (λ j. []) [] inside)))

-- with nothing counted
pub counts_with-start : (X : Type 0) (n : ℕ) (counts : List ℕ) → counts ≡ replicate n 0 → counts ≡ counts_with {X = X} (replicate n 0) []
counts_with-start X n counts e = e ∙ counts_with-none X (replicate n 0)

-- the counts of all values, from none
pub counted-all : {X : Type 0} (n : ℕ) (entries : List (ℕ × X)) → counts_with (replicate n 0) entries ≡ map length (list_below n (λ k. values_at k entries))
counted-all {X} n entries = ap (λ cs. counts_with cs entries) (no_counts X n) ∙ counted-lengths (empty_lists n) entries ∙ ap (map length) (filled-empty n entries)

-- room that was counts_with is enough
pub counted-room : {X : Type 0} (start : List (List X)) (room : List ℕ) (entries : List (ℕ × X)) → room ≡ map length (filled start entries) → HasRoom (record { lists = start; room = room }) entries
counted-room {X} start room entries e k h =
    omega (arith, ap (λ rs. get_or rs k 0) e, get_or-map length (filled start entries) k [] 0 (omega (arith, length-filled start entries)), ap length (get_or-filled start entries k h), length-append (get_or start k []) (values_at k entries))

-- so there is room for the next value
pub room-next : {X : Type 0} (start lists : List (List X)) (room : List ℕ) (before all behind : List (ℕ × X)) (j : ℕ) (x : X) → HasRoom (record { lists = start; room = room }) all → all ≡ (before ++ (j, x) ∷ []) ++ behind → lists ≡ filled start before → j < length start → length (get_or lists j []) < get_or room j 0
room-next {X} start lists room before all behind j x has split now h =
    let so_far : length (get_or lists j []) ≡ length (get_or start j []) + length (values_at j before) = ap (λ ls. length (get_or ls j [])) now ∙ ap length (get_or-filled start before j h) ∙ length-append (get_or start j []) (values_at j before) in
    let later : length (values_at j all) ≡ length (values_at j (before ++ (j, x) ∷ [])) + length (values_at j behind) = ap (λ es. length (values_at j es)) split ∙ ap length (values_at-append j (before ++ (j, x) ∷ []) behind) ∙ length-append (values_at j (before ++ (j, x) ∷ [])) (values_at j behind) in
    omega (arith, has j h, length-values_at-push j j before x refl)

-- ---- neighbours and holders

pub ends-more : (edges : List (ℕ × ℕ × ℕ)) (i : ℕ) (d : ℕ × ℕ × ℕ) → i < length edges → flat_map ends_of (take (i + 1) edges) ≡ (flat_map ends_of (take i edges) ++ ((get_or edges i d).0, as_neighbour (get_or edges i d).1 (get_or edges i d).2) ∷ []) ++ ((get_or edges i d).1, as_neighbour (get_or edges i d).0 (get_or edges i d).2) ∷ []
ends-more edges i d h =
    let e : ℕ × ℕ × ℕ = get_or edges i d in
    ap (flat_map ends_of) (take_more edges i d h) ∙ flat_map-append ends_of (take i edges) (e ∷ [])
    ∙ sym (append_assoc (flat_map ends_of (take i edges)) ((e.0, as_neighbour e.1 e.2) ∷ []) ((e.1, as_neighbour e.0 e.2) ∷ []))

neighbours-table : (parts : Parts) (lists : List (List Neighbour)) → lists ≡ filled (list_below {X = List Neighbour} (unit_count parts) (λ k. [])) (flat_map ends_of parts.edges) → lists ≡ list_below (unit_count parts) (neighbours_of parts)
unfolding neighbours_of
neighbours-table parts lists e = e ∙ filled-empty (unit_count parts) (flat_map ends_of parts.edges)

pub pair-at : (parts : Parts) (edges : List (ℕ × ℕ × ℕ)) (i : ℕ) → IsValid parts → edges ≡ parts.edges → i < length edges → IsPair (unit_count parts) (get_or edges i (0, 0, 0))
pair-at parts edges i valid e h = All-get_or (IsPair (unit_count parts)) edges i (0, 0, 0) h (All-same (IsPair (unit_count parts)) edges parts.edges e valid.shape.pairs)

-- as many lists as before
pub length-empty-filled : {X : Type 0} (n : ℕ) (lists : List (List X)) (es : List (ℕ × X)) → lists ≡ filled (empty_lists n) es → length lists ≡ n
length-empty-filled {X} n lists es e = ap length e ∙ length-filled {X = X} (empty_lists n) es ∙ length-list_below {X = List X} n (λ k. [])

pub rows-split : (rows : List (ℕ × ℕ × ℕ)) (i : ℕ) → i < length rows → map holder_of rows ≡ (map holder_of (take i rows) ++ ((get_or rows i (0, 0, 0)).1, ((get_or rows i (0, 0, 0)).0, (get_or rows i (0, 0, 0)).2)) ∷ []) ++ map holder_of (drop (i + 1) rows)
rows-split rows i h = ap (map holder_of) (sym (take-append-drop (i + 1) rows)) ∙ map-append holder_of (take (i + 1) rows) (drop (i + 1) rows) ∙ ap (λ es. es ++ map holder_of (drop (i + 1) rows)) (map_more holder_of rows i (0, 0, 0) h)

pub ends-split : (edges : List (ℕ × ℕ × ℕ)) (i : ℕ) → i < length edges
    → flat_map ends_of edges ≡ ((flat_map ends_of (take i edges) ++ ((get_or edges i (0, 0, 0)).0, as_neighbour (get_or edges i (0, 0, 0)).1 (get_or edges i (0, 0, 0)).2) ∷ []) ++ ((get_or edges i (0, 0, 0)).1, as_neighbour (get_or edges i (0, 0, 0)).0 (get_or edges i (0, 0, 0)).2) ∷ []) ++ flat_map ends_of (drop (i + 1) edges)
ends-split edges i h = ap (flat_map ends_of) (sym (take-append-drop (i + 1) edges)) ∙ flat_map-append ends_of (take (i + 1) edges) (drop (i + 1) edges) ∙ ap (λ es. es ++ flat_map ends_of (drop (i + 1) edges)) (ends-more edges i (0, 0, 0) h)

-- the lists behind one more pair
pub neighbours-more : (n : ℕ) (edges : List (ℕ × ℕ × ℕ)) (i : ℕ) (lists one two : List (List Neighbour)) → i < length edges → IsPair n (get_or edges i (0, 0, 0)) → lists ≡ filled (empty_lists n) (flat_map ends_of (take i edges))
    → one ≡ set lists (get_or edges i (0, 0, 0)).0 (get_or lists (get_or edges i (0, 0, 0)).0 [] ++ as_neighbour (get_or edges i (0, 0, 0)).1 (get_or edges i (0, 0, 0)).2 ∷ [])
    → two ≡ set one (get_or edges i (0, 0, 0)).1 (get_or one (get_or edges i (0, 0, 0)).1 [] ++ as_neighbour (get_or edges i (0, 0, 0)).0 (get_or edges i (0, 0, 0)).2 ∷ [])
    → two ≡ filled (empty_lists n) (flat_map ends_of (take (i + 1) edges))
neighbours-more n edges i lists one two h is now first second =
    let e : ℕ × ℕ × ℕ = get_or edges i (0, 0, 0) in
    let len : length (empty_lists n) ≡ n = length-list_below {X = List Neighbour} n (λ k. []) in
    let es : List (ℕ × Neighbour) = flat_map ends_of (take i edges) in
    let so_far : one ≡ filled (empty_lists n) (es ++ (e.0, as_neighbour e.1 e.2) ∷ []) = filled-push (empty_lists n) lists one es e.0 (as_neighbour e.1 e.2) now (omega (arith, is.first, is.second)) first in
    filled-push (empty_lists n) one two (es ++ (e.0, as_neighbour e.1 e.2) ∷ []) e.1 (as_neighbour e.0 e.2) so_far (omega (arith, is.second)) second
    ∙ ap (filled (empty_lists n)) (sym (ends-more edges i (0, 0, 0) h))

pub neighbours-done : (parts : Parts) (edges : List (ℕ × ℕ × ℕ)) (i : ℕ) (lists : List (List Neighbour)) → edges ≡ parts.edges → length edges ≤ i → lists ≡ filled (empty_lists (unit_count parts)) (flat_map ends_of (take i edges)) → lists ≡ list_below (unit_count parts) (neighbours_of parts)
neighbours-done parts edges i lists e h now = neighbours-table parts lists (now ∙ ap (λ es. filled (empty_lists (unit_count parts)) (flat_map ends_of es)) (take_all i edges h ∙ e))

-- the lists behind one more amount
pub holders-more : (n : ℕ) (rows : List (ℕ × ℕ × ℕ)) (i : ℕ) (lists one : List (List (ℕ × ℕ))) → i < length rows → (get_or rows i (0, 0, 0)).1 < n → lists ≡ filled (empty_lists n) (map holder_of (take i rows))
    → one ≡ set lists (get_or rows i (0, 0, 0)).1 (get_or lists (get_or rows i (0, 0, 0)).1 [] ++ ((get_or rows i (0, 0, 0)).0, (get_or rows i (0, 0, 0)).2) ∷ [])
    → one ≡ filled (empty_lists n) (map holder_of (take (i + 1) rows))
holders-more n rows i lists one h inside now pushed =
    let row : ℕ × ℕ × ℕ = get_or rows i (0, 0, 0) in
    let len : length (empty_lists n) ≡ n = length-list_below {X = List (ℕ × ℕ)} n (λ k. []) in
    filled-push (empty_lists n) lists one (map holder_of (take i rows)) row.1 (row.0, row.2) now (omega arith) pushed
    ∙ ap (filled (empty_lists n)) (sym (map_more holder_of rows i (0, 0, 0) h))

pub holders-done : (n : ℕ) (rows : List (ℕ × ℕ × ℕ)) (i : ℕ) (lists : List (List (ℕ × ℕ))) → length rows ≤ i → lists ≡ filled (empty_lists n) (map holder_of (take i rows)) → lists ≡ list_below n (holders_of rows)
unfolding holders_of
holders-done n rows i lists h now = now ∙ ap (λ rs. filled (empty_lists n) (map holder_of rs)) (take_all i rows h) ∙ filled-empty n (map holder_of rows)

-- the counts behind one more amount
pub holder_counts-more : (n : ℕ) (rows : List (ℕ × ℕ × ℕ)) (i : ℕ) (counts one : List ℕ) → i < length rows → (get_or rows i (0, 0, 0)).1 < n → counts ≡ counts_with (replicate n 0) (map holder_of (take i rows)) → one ≡ set counts (get_or rows i (0, 0, 0)).1 (get_or counts (get_or rows i (0, 0, 0)).1 0 + 1)
    → one ≡ counts_with (replicate n 0) (map holder_of (take (i + 1) rows))
holder_counts-more n rows i counts one h inside now pushed =
    let row : ℕ × ℕ × ℕ = get_or rows i (0, 0, 0) in
    counts_with-push (replicate n 0) counts one (map holder_of (take i rows)) row.1 (row.0, row.2) now (omega (arith, length-replicate {A = ℕ} n 0)) pushed
    ∙ ap (counts_with (replicate n 0)) (sym (map_more holder_of rows i (0, 0, 0) h))

pub holder_counts-done : (n : ℕ) (rows : List (ℕ × ℕ × ℕ)) (i : ℕ) (counts : List ℕ) → length rows ≤ i → counts ≡ counts_with (replicate n 0) (map holder_of (take i rows)) → counts ≡ map length (list_below n (holders_of rows))
unfolding holders_of
holder_counts-done n rows i counts h now = now ∙ ap (λ rs. counts_with (replicate n 0) (map holder_of rs)) (take_all i rows h) ∙ counted-all n (map holder_of rows)

-- lists by feature as they are filled: some, and the room of all
pub record AreHolders (n : ℕ) (rows : List (ℕ × ℕ × ℕ)) (i : ℕ) (filling : Filling (ℕ × ℕ)) : Type 0 where
  pub lists : filling.lists ≡ filled (empty_lists n) (map holder_of (take i rows))
  pub room : filling.room ≡ map length (list_below n (holders_of rows))

pub holders-open : (n : ℕ) (rows : List (ℕ × ℕ × ℕ)) (i : ℕ) (filling : Filling (ℕ × ℕ)) → AreHolders n rows i filling → i < length rows → (get_or rows i (0, 0, 0)).1 < n → length (get_or filling.lists (get_or rows i (0, 0, 0)).1 []) < get_or filling.room (get_or rows i (0, 0, 0)).1 0
unfolding holders_of
holders-open n rows i filling are h inside =
    let row : ℕ × ℕ × ℕ = get_or rows i (0, 0, 0) in
    room-next (empty_lists n) filling.lists filling.room (map holder_of (take i rows)) (map holder_of rows) (map holder_of (drop (i + 1) rows)) row.1 (row.0, row.2)
    (counted-room (empty_lists n) filling.room (map holder_of rows) (are.room ∙ ap (map length) (sym (filled-empty n (map holder_of rows)))))
    (rows-split rows i h) are.lists (omega (arith, length-empty_lists (ℕ × ℕ) n))

pub holders-start : (n : ℕ) (rows : List (ℕ × ℕ × ℕ)) (counts : List ℕ) (filling : Filling (ℕ × ℕ)) → counts ≡ map length (list_below n (holders_of rows)) → filling ≡ record { lists = empty_lists (length counts); room = counts } → AreHolders n rows 0 filling
holders-start n rows counts filling e is =
    let len : length counts ≡ n = ap length e ∙ length-map (list_below n (holders_of rows)) length ∙ length-list_below n (holders_of rows) in
    record {
      lists = ap (λ (v : Filling (ℕ × ℕ)). v.lists) is ∙ ap (λ m. empty_lists {X = ℕ × ℕ} m) len ∙ filled-none (empty_lists {X = ℕ × ℕ} n);
      room = ap (λ (v : Filling (ℕ × ℕ)). v.room) is ∙ e;
    }

pub holders-full : (n : ℕ) (rows : List (ℕ × ℕ × ℕ)) (i : ℕ) (filling : Filling (ℕ × ℕ)) → AreHolders n rows i filling → length rows ≤ i → map length filling.lists ≡ filling.room
holders-full n rows i filling are h = ap (map length) (holders-done n rows i filling.lists h are.lists) ∙ sym are.room

-- the counts behind one more pair
pub neighbour_counts-more : (n : ℕ) (edges : List (ℕ × ℕ × ℕ)) (i : ℕ) (counts one two : List ℕ) → i < length edges → IsPair n (get_or edges i (0, 0, 0)) → counts ≡ counts_with (replicate n 0) (flat_map ends_of (take i edges)) → one ≡ set counts (get_or edges i (0, 0, 0)).0 (get_or counts (get_or edges i (0, 0, 0)).0 0 + 1)
    → two ≡ set one (get_or edges i (0, 0, 0)).1 (get_or one (get_or edges i (0, 0, 0)).1 0 + 1) → two ≡ counts_with (replicate n 0) (flat_map ends_of (take (i + 1) edges))
neighbour_counts-more n edges i counts one two h is now first second =
    let e : ℕ × ℕ × ℕ = get_or edges i (0, 0, 0) in
    let es : List (ℕ × Neighbour) = flat_map ends_of (take i edges) in
    let so_far : one ≡ counts_with (replicate n 0) (es ++ (e.0, as_neighbour e.1 e.2) ∷ []) = counts_with-push (replicate n 0) counts one es e.0 (as_neighbour e.1 e.2) now (omega (arith, length-replicate {A = ℕ} n 0, is.first, is.second)) first in
    counts_with-push (replicate n 0) one two (es ++ (e.0, as_neighbour e.1 e.2) ∷ []) e.1 (as_neighbour e.0 e.2) so_far (omega (arith, length-replicate {A = ℕ} n 0, is.second)) second
    ∙ ap (counts_with (replicate n 0)) (sym (ends-more edges i (0, 0, 0) h))

pub neighbour_counts-done : (parts : Parts) (edges : List (ℕ × ℕ × ℕ)) (i : ℕ) (counts : List ℕ) → edges ≡ parts.edges → length edges ≤ i → counts ≡ counts_with (replicate (unit_count parts) 0) (flat_map ends_of (take i edges)) → counts ≡ map length (list_below (unit_count parts) (neighbours_of parts))
unfolding neighbours_of
neighbour_counts-done parts edges i counts e h now = now ∙ ap (λ es. counts_with (replicate (unit_count parts) 0) (flat_map ends_of es)) (take_all i edges h ∙ e) ∙ counted-all (unit_count parts) (flat_map ends_of parts.edges)

-- lists of neighbours as they are filled: some, and the room of all
pub record AreNeighbours (parts : Parts) (i : ℕ) (filling : Filling Neighbour) : Type 0 where
  pub lists : filling.lists ≡ filled (empty_lists (unit_count parts)) (flat_map ends_of (take i parts.edges))
  pub room : filling.room ≡ map length (list_below (unit_count parts) (neighbours_of parts))

pub neighbours-start : (parts : Parts) (counts : List ℕ) (filling : Filling Neighbour) → counts ≡ map length (list_below (unit_count parts) (neighbours_of parts)) → filling ≡ record { lists = empty_lists (length counts); room = counts } → AreNeighbours parts 0 filling
neighbours-start parts counts filling e is =
    let n : ℕ = unit_count parts in
    let len : length counts ≡ n = ap length e ∙ length-map (list_below n (neighbours_of parts)) length ∙ length-list_below n (neighbours_of parts) in
    record {
      lists = ap (λ (v : Filling Neighbour). v.lists) is ∙ ap (λ m. empty_lists {X = Neighbour} m) len ∙ filled-none (empty_lists {X = Neighbour} n);
      room = ap (λ (v : Filling Neighbour). v.room) is ∙ e;
    }

-- the pair that comes next, and the lists behind its first end
pub record IsNextPair (parts : Parts) (i : ℕ) (e : ℕ × ℕ × ℕ) (filling one : Filling Neighbour) : Type 0 where
  pub first_in : e.0 < length filling.lists
  pub first_room : length (get_or filling.lists e.0 []) < get_or filling.room e.0 0
  pub second_in : e.1 < length one.lists
  pub second_room : length (get_or one.lists e.1 []) < get_or one.room e.1 0

pub neighbours-open : (parts : Parts) (edges : List (ℕ × ℕ × ℕ)) (i : ℕ) (filling one : Filling Neighbour) → IsValid parts → edges ≡ parts.edges → i < length edges → AreNeighbours parts i filling
    → one ≡ record filling { lists = set filling.lists (get_or edges i (0, 0, 0)).0 (get_or filling.lists (get_or edges i (0, 0, 0)).0 [] ++ as_neighbour (get_or edges i (0, 0, 0)).1 (get_or edges i (0, 0, 0)).2 ∷ []) } → IsNextPair parts i (get_or edges i (0, 0, 0)) filling one
unfolding neighbours_of
neighbours-open parts edges i filling one valid same h are first =
    let n : ℕ = unit_count parts in
    let e : ℕ × ℕ × ℕ = get_or edges i (0, 0, 0) in
    let is : IsPair n e = pair-at parts edges i valid same h in
    let es : List (ℕ × Neighbour) = flat_map ends_of (take i edges) in
    let all : List (ℕ × Neighbour) = flat_map ends_of edges in
    let rest : List (ℕ × Neighbour) = flat_map ends_of (drop (i + 1) edges) in
    let own : ℕ × Neighbour = (e.0, as_neighbour e.1 e.2) in
    let other : ℕ × Neighbour = (e.1, as_neighbour e.0 e.2) in
    let now : filling.lists ≡ filled (empty_lists n) es = are.lists ∙ ap (λ xs. filled (empty_lists n) (flat_map ends_of (take i xs))) (sym same) in
    let has : HasRoom (record { lists = empty_lists n; room = filling.room }) all =
    counted-room (empty_lists n) filling.room all (are.room ∙ ap (map length) (sym (filled-empty n (flat_map ends_of parts.edges)) ∙ ap (λ xs. filled (empty_lists n) (flat_map ends_of xs)) (sym same))) in
    let split : all ≡ ((es ++ own ∷ []) ++ other ∷ []) ++ rest = ends-split edges i h in
    let so_far : one.lists ≡ filled (empty_lists n) (es ++ own ∷ []) = filled-push (empty_lists n) filling.lists one.lists es e.0 (as_neighbour e.1 e.2) now (omega (arith, length-empty_lists Neighbour n, is.first, is.second)) (ap (λ (v : Filling Neighbour). v.lists) first) in
    let room : one.room ≡ filling.room = ap (λ (v : Filling Neighbour). v.room) first in
    let len : length one.lists ≡ n = length-empty-filled n one.lists (es ++ own ∷ []) so_far in
    record {
      first_in = omega (arith, length-empty-filled n filling.lists es now, is.first, is.second);
      first_room = room-next (empty_lists n) filling.lists filling.room es all (other ∷ rest) e.0 (as_neighbour e.1 e.2) has (split ∙ append_assoc (es ++ own ∷ []) (other ∷ []) rest) now (omega (arith, length-empty_lists Neighbour n, is.first, is.second));
      second_in = omega (arith, is.second);
      second_room = subst (λ rs. length (get_or one.lists e.1 []) < get_or rs e.1 0) (sym room) (room-next (empty_lists n) one.lists filling.room (es ++ own ∷ []) all rest e.1 (as_neighbour e.0 e.2) has split so_far (omega (arith, length-empty_lists Neighbour n, is.second)));
    }

pub neighbours-next : (parts : Parts) (edges : List (ℕ × ℕ × ℕ)) (i : ℕ) (filling one two : Filling Neighbour) → IsValid parts → edges ≡ parts.edges → i < length edges → AreNeighbours parts i filling
    → one ≡ record filling { lists = set filling.lists (get_or edges i (0, 0, 0)).0 (get_or filling.lists (get_or edges i (0, 0, 0)).0 [] ++ as_neighbour (get_or edges i (0, 0, 0)).1 (get_or edges i (0, 0, 0)).2 ∷ []) }
    → two ≡ record one { lists = set one.lists (get_or edges i (0, 0, 0)).1 (get_or one.lists (get_or edges i (0, 0, 0)).1 [] ++ as_neighbour (get_or edges i (0, 0, 0)).0 (get_or edges i (0, 0, 0)).2 ∷ []) } → AreNeighbours parts (i + 1) two
neighbours-next parts edges i filling one two valid same h are first second =
    let n : ℕ = unit_count parts in
    record {
      lists = neighbours-more n edges i filling.lists one.lists two.lists h (pair-at parts edges i valid same h) (are.lists ∙ ap (λ xs. filled (empty_lists n) (flat_map ends_of (take i xs))) (sym same)) (ap (λ (v : Filling Neighbour). v.lists) first) (ap (λ (v : Filling Neighbour). v.lists) second)
          ∙ ap (λ xs. filled (empty_lists n) (flat_map ends_of (take (i + 1) xs))) same;
      room = ap (λ (v : Filling Neighbour). v.room) second ∙ ap (λ (v : Filling Neighbour). v.room) first ∙ are.room;
    }

pub neighbours-whole : (parts : Parts) (edges : List (ℕ × ℕ × ℕ)) (i : ℕ) (filling : Filling Neighbour) → edges ≡ parts.edges → length edges ≤ i → AreNeighbours parts i filling → filling.lists ≡ list_below (unit_count parts) (neighbours_of parts)
neighbours-whole parts edges i filling same h are = neighbours-done parts parts.edges i filling.lists refl (subst (λ xs. length xs ≤ i) same h) are.lists

-- the lists by feature, of the rows and the number of features as they were read
pub holders-are : (parts : Parts) (rows : List (ℕ × ℕ × ℕ)) (n : ℕ) (lists : List (List (ℕ × ℕ))) → rows ≡ parts.amounts → n ≡ feature_count parts → lists ≡ list_below n (holders_of rows) → lists ≡ list_below (feature_count parts) (holders_of parts.amounts)
holders-are parts rows n lists e f is = is ∙ ap (λ rs. list_below n (holders_of rs)) e ∙ ap (λ m. list_below m (holders_of parts.amounts)) f

-- ---- touched rows

-- the rows before n for which a unit gains in some zone, each with its amount
abbrev pub touches_upto : Parts → ℕ → ℕ → List Touch
touches_upto parts n unit = map (λ row. as_touch row (amount_for parts row unit)) (places_below n (is_touched parts unit))

pub touching-more : (row part : ℕ) (holders : List (ℕ × ℕ)) (i : ℕ) (d : ℕ × ℕ) → i < length holders → touching row part (take (i + 1) holders) ≡ touching row part (take i holders) ++ cond (nat_le 500000 ((get_or holders i d).1 * part)) (((get_or holders i d).0, as_touch row (get_or holders i d).1) ∷ []) []
touching-more row part holders i d h =
    let entry : ℕ × ℕ → ℕ × Touch = λ (holder : ℕ × ℕ). (holder.0, as_touch row holder.1) in
    let test : ℕ × ℕ → Bool = λ (holder : ℕ × ℕ). nat_le 500000 (holder.1 * part) in
    let last : ℕ × ℕ = get_or holders i d in
    ap (touching row part) (take_more holders i d h) ∙ ap (map entry) (filter-append test (take i holders) (last ∷ [])) ∙ map-append entry (filter test (take i holders)) (filter test (last ∷ []))
    ∙ ap (λ es. touching row part (take i holders) ++ es) (elim (test last) as (λ b. map entry (cond b (last ∷ []) []) ≡ cond b (entry last ∷ []) []) [ true ↦ refl | false ↦ refl ])

max_left : (a b : ℕ) → b ≤ a → max a b ≡ a
max_left a b h = omega arith

max_right : (a b : ℕ) → a ≤ b → max a b ≡ b
max_right a b h = omega arith

-- the greatest gain of an amount is that of the greatest part
greatest_below-round : (n amount : ℕ) (f : ℕ → ℕ) → greatest_below n (λ k. round (amount * f k) 1000000) ≡ round (amount * greatest_below n f) 1000000
unfolding round
greatest_below-round zero amount f = omega arith
greatest_below-round (suc n) amount f =
    elim (cases_lt (f n) (greatest_below n f)) [
      | inl less ↦ (let order : f n ≤ greatest_below n f = omega arith in let product : amount * f n ≤ amount * greatest_below n f = mul-le-mul_left amount order in omega (arith, greatest_below-round n amount f, ap (λ m. amount * m) (max_left (greatest_below n f) (f n) order)))
      | inr more ↦ (let product : amount * greatest_below n f ≤ amount * f n = mul-le-mul_left amount more in omega (arith, greatest_below-round n amount f, ap (λ m. amount * m) (max_right (greatest_below n f) (f n) more)))
    ]

cond-le : (b : Bool) (amount : ℕ) → cond b amount 0 ≤ amount
cond-le true amount = omega arith
cond-le false amount = omega arith

-- a value in one place alone is the greatest
greatest_below-one : (n own amount : ℕ) → own < n → greatest_below n (λ k. cond (k == own) amount 0) ≡ amount
greatest_below-one n own amount h =
    let f : ℕ → ℕ = λ k. cond (k == own) amount 0 in
    let here : f own ≡ amount = cond-true (own == own) amount 0 (eq-eqb own own refl) in
    let some_place : f own ≤ greatest_below n f = at-le-greatest_below n own f h in
    let no_more : greatest_below n f ≤ amount = greatest_below-le n amount f (λ k i. cond-le (k == own) amount) in
    omega arith

-- no zone, or a zone below n
abbrev pub IsSomeOrNone : ℕ → Option ℕ → Type 0
IsSomeOrNone n None = Unit {0}
IsSomeOrNone n (Some zone) = zone < n

none_inside : (n : ℕ) (zone : Option ℕ) → zone ≡ None → IsSomeOrNone n zone
none_inside n None e = tt
none_inside n (Some zone) e = absurd (cc)

some_inside : (n : ℕ) (zone : Option ℕ) → IsSomeAnd zone (λ z. z < n) → IsSomeOrNone n zone
some_inside n None is = tt
some_inside n (Some zone) is = is

pub zone-inside : (parts : Parts) (row : ℕ) → IsValid parts → row < target_count parts → IsSomeOrNone (zone_count parts) (target_at parts row).zone
zone-inside parts row valid h =
    elim (cases_lt row (feature_count parts)) [
      | inl overall ↦ none_inside (zone_count parts) (target_at parts row).zone (valid.shape.overall_rows row overall).everywhere
      | inr zonal ↦ some_inside (zone_count parts) (target_at parts row).zone (valid.shape.zone_rows row zonal h).zone
    ]

pub feature-inside : (parts : Parts) (row : ℕ) → IsValid parts → row < target_count parts → (target_at parts row).feature < feature_count parts
feature-inside parts row valid h =
    elim (cases_lt row (feature_count parts)) [
      | inl overall ↦ omega (arith, (valid.shape.overall_rows row overall).own)
      | inr zonal ↦ (valid.shape.zone_rows row zonal h).feature
    ]

-- the greatest gain of an amount is that of its greatest part
greatest_counted : (parts : Parts) (feature amount : ℕ) (zone : Option ℕ) → IsSomeOrNone (zone_count parts) zone → greatest_below (zone_count parts) (λ k. counted zone amount (fraction_at parts k feature) k) ≡ round (amount * greatest_part_in parts feature zone) 1000000
greatest_counted parts feature amount None inside = greatest_below-round (zone_count parts) amount (λ k. fraction_at parts k feature)
greatest_counted parts feature amount (Some own) inside = greatest_below-one (zone_count parts) own amount inside ∙ sym (round-multiple amount 1000000 (omega arith))

-- a unit touches a row where its amount has a part that counts
pub is_touched-is : (parts : Parts) (row unit : ℕ) → IsSomeOrNone (zone_count parts) (target_at parts row).zone → is_touched parts unit row ≡ nat_le 500000 (amount_for parts row unit * greatest_part_of parts (target_at parts row))
unfolding is_touched gain_of gain_from
is_touched-is parts row unit inside =
    ap (λ n. nat_lt 0 n) (greatest_counted parts (target_at parts row).feature (amount_for parts row unit) (target_at parts row).zone inside)
    ∙ round-positive (amount_for parts row unit * greatest_part_of parts (target_at parts row))

-- what a row adds to a unit's list
pub values_at-touching : (parts : Parts) (row unit part : ℕ) → IsValid parts → IsSomeOrNone (zone_count parts) (target_at parts row).zone → part ≡ greatest_part_of parts (target_at parts row) → values_at unit (touching row part (holders_of parts.amounts (target_at parts row).feature)) ≡ cond (is_touched parts unit row) (as_touch row (amount_for parts row unit) ∷ []) []
unfolding amount_for
values_at-touching parts row unit part valid inside e =
    let enough : ℕ → Bool = λ amount. nat_le 500000 (amount * part) in
    values_at-entries_of parts.amounts (target_at parts row).feature unit row enough (lt-leb 500000 (0 * part) (omega arith)) valid.shape.amounts_in_order
    ∙ ap (λ b. cond b (as_touch row (amount_of parts.amounts unit (target_at parts row).feature) ∷ []) []) (ap (λ p. nat_le 500000 (amount_of parts.amounts unit (target_at parts row).feature * p)) e ∙ sym (is_touched-is parts row unit inside))

pub touches_upto-more : (parts : Parts) (row unit : ℕ) → touches_upto parts (row + 1) unit ≡ touches_upto parts row unit ++ cond (is_touched parts unit row) (as_touch row (amount_for parts row unit) ∷ []) []
touches_upto-more parts row unit =
    let entry : ℕ → Touch = λ r. as_touch r (amount_for parts r unit) in
    ap (map entry) (places_below-more row (is_touched parts unit)) ∙ map-append entry (places_below row (is_touched parts unit)) (cond (is_touched parts unit row) (row ∷ []) [])
    ∙ ap (λ es. touches_upto parts row unit ++ es) (elim (is_touched parts unit row) as (λ b. ◌≡◌ {A = List Touch} (map entry (cond b (row ∷ []) [])) (cond b (entry row ∷ []) [])) [ true ↦ refl | false ↦ refl ])

-- the lists behind one more row
pub touches-more : (parts : Parts) (row part : ℕ) (holders : List (ℕ × ℕ)) (lists lists' : List (List Touch)) → IsValid parts → row < target_count parts → part ≡ greatest_part_of parts (target_at parts row) → holders ≡ holders_of parts.amounts (target_at parts row).feature → lists ≡ list_below (unit_count parts) (touches_upto parts row) → lists' ≡ filled lists (touching row part holders) → lists' ≡ list_below (unit_count parts) (touches_upto parts (row + 1))
touches-more parts row part holders lists lists' valid h e f now more =
    let es : List (ℕ × Touch) = touching row part holders in
    let len : length lists ≡ unit_count parts = ap length now ∙ length-list_below {X = List Touch} (unit_count parts) (touches_upto parts row) in
    more ∙ ap (λ n. list_below n (λ k. get_or lists k [] ++ values_at k es)) len
    ∙ list_below-same {X = List Touch} (unit_count parts) (λ k. get_or lists k [] ++ values_at k es) (touches_upto parts (row + 1)) []
    (λ k i. ap (λ l. l ++ values_at k es) (ap (λ ls. get_or ls k []) now ∙ get_or-list_below {X = List Touch} (unit_count parts) k (touches_upto parts row) [] i)
    ∙ ap (λ vs. touches_upto parts row k ++ vs) (ap (λ hs. values_at k (touching row part hs)) f ∙ values_at-touching parts row k part valid (zone-inside parts row valid h) e)
    ∙ sym (touches_upto-more parts row k))

pub touches-none : (parts : Parts) → empty_lists (unit_count parts) ≡ list_below (unit_count parts) (touches_upto parts 0)
touches-none parts = list_below-same {X = List Touch} (unit_count parts) (λ k. []) (touches_upto parts 0) [] (λ k i. refl)

pub touches-done : (parts : Parts) (n : ℕ) (lists : List (List Touch)) → n ≡ target_count parts → lists ≡ list_below (unit_count parts) (touches_upto parts n) → lists ≡ list_below (unit_count parts) (touches_of parts)
unfolding touches_of touched_rows
touches-done parts n lists e now = now ∙ ap (λ m. list_below (unit_count parts) (touches_upto parts m)) e

-- a row as it is read
pub record IsRead (parts : Parts) (row : ℕ) (target : Target) (holders : List (List (ℕ × ℕ))) : Type 0 where
  pub target_is : target ≡ target_at parts row
  pub inside : target.feature < length holders
  pub holders_are : get_or holders target.feature [] ≡ holders_of parts.amounts (target_at parts row).feature

pub row-read : (parts : Parts) (row : ℕ) (targets : List Target) (holders : List (List (ℕ × ℕ))) → IsValid parts → row < target_count parts → targets ≡ parts.targets → holders ≡ list_below (feature_count parts) (holders_of parts.amounts) → IsRead parts row (get_or targets row no_target) holders
row-read parts row targets holders valid h e table =
    let is : get_or targets row no_target ≡ target_at parts row = ap (λ ts. get_or ts row no_target) e in
    let feature : (get_or targets row no_target).feature < feature_count parts = subst (λ (t : Target). t.feature < feature_count parts) (sym is) (feature-inside parts row valid h) in
    let here : IsRow holders (get_or targets row no_target).feature (holders_of parts.amounts (get_or targets row no_target).feature) = table-row holders (feature_count parts) (holders_of parts.amounts) (get_or targets row no_target).feature table feature in
    record { target_is = is; inside = here.inside; holders_are = here.is ∙ ap (λ (t : Target). holders_of parts.amounts t.feature) is }

-- ---- touched rows, counted

touching-any : (a c part k : ℕ) (holders : List (ℕ × ℕ)) → length (values_at k (touching a part holders)) ≡ length (values_at k (touching c part holders))
touching-any a c part k [] = refl
touching-any a c part k (h ∷ hs) =
    let more : length (values_at k (touching a part hs)) ≡ length (values_at k (touching c part hs)) = touching-any a c part k hs in
    let rest : List (ℕ × ℕ) = filter (λ (holder : ℕ × ℕ). nat_le 500000 (holder.1 * part)) hs in
    elim (nat_le 500000 (h.1 * part)) as (λ b. length (values_at {X = Touch} k (map (λ (holder : ℕ × ℕ). (holder.0, as_touch a holder.1)) (cond b (h ∷ rest) rest))) ≡ length (values_at {X = Touch} k (map (λ (holder : ℕ × ℕ). (holder.0, as_touch c holder.1)) (cond b (h ∷ rest) rest)))) [
      | true ↦ elim (h.0 == k) as (λ b. length (cond b (as_touch a h.1 ∷ values_at k (touching a part hs)) (values_at k (touching a part hs))) ≡ length (cond b (as_touch c h.1 ∷ values_at k (touching c part hs)) (values_at k (touching c part hs)))) [ true ↦ ap (λ n. suc n) more | false ↦ more ]
      | false ↦ more
    ]

-- the counts behind one more row
pub touch_counts-more : (parts : Parts) (row part : ℕ) (holders : List (ℕ × ℕ)) (counts counts' : List ℕ) → IsValid parts → row < target_count parts → part ≡ greatest_part_of parts (target_at parts row) → holders ≡ holders_of parts.amounts (target_at parts row).feature
    → counts ≡ map length (list_below (unit_count parts) (touches_upto parts row)) → counts' ≡ counts_with counts (touching 0 part holders) → counts' ≡ map length (list_below (unit_count parts) (touches_upto parts (row + 1)))
touch_counts-more parts row part holders counts counts' valid h e f now more =
    let lists : List (List Touch) = list_below (unit_count parts) (touches_upto parts row) in
    more
    ∙ list_below-same (length counts) (λ k. get_or counts k 0 + length (values_at k (touching 0 part holders))) (λ k. get_or counts k 0 + length (values_at k (touching row part holders))) 0 (λ k i. ap (λ n. get_or counts k 0 + n) (touching-any 0 row part k holders))
    ∙ ap (λ cs. counts_with cs (touching row part holders)) now ∙ counted-lengths lists (touching row part holders)
    ∙ ap (map length) (touches-more parts row part holders lists (filled lists (touching row part holders)) valid h e f refl refl)

pub touch_counts-start : (parts : Parts) (n : ℕ) (counts : List ℕ) → n ≡ unit_count parts → counts ≡ replicate n 0 → counts ≡ map length (list_below (unit_count parts) (touches_upto parts 0))
touch_counts-start parts n counts e is = is ∙ ap (λ m. replicate m 0) e ∙ no_counts Touch (unit_count parts) ∙ ap (map length) (touches-none parts)

pub touch_counts-done : (parts : Parts) (n : ℕ) (counts : List ℕ) → n ≡ target_count parts → counts ≡ map length (list_below (unit_count parts) (touches_upto parts n)) → counts ≡ map length (list_below (unit_count parts) (touches_of parts))
touch_counts-done parts n counts e now = now ∙ ap (map length) (touches-done parts n (list_below (unit_count parts) (touches_upto parts n)) e refl)

touches_upto-le : (parts : Parts) (m row unit : ℕ) → length (touches_upto parts row unit) ≤ length (touches_upto parts (row + m) unit)
touches_upto-le parts zero row unit = omega (arith, ap (λ n. length (touches_upto parts n unit)) (let e : row + 0 ≡ row = omega arith in e))
touches_upto-le parts (suc m) row unit =
    let e : row + suc m ≡ row + m + 1 = omega arith in
    omega (arith, touches_upto-le parts m row unit, ap (λ n. length (touches_upto parts n unit)) e, ap length (touches_upto-more parts (row + m) unit), length-append (touches_upto parts (row + m) unit) (cond (is_touched parts unit (row + m)) (as_touch (row + m) (amount_for parts (row + m) unit) ∷ []) []))

touches_of-most : (parts : Parts) (row unit : ℕ) → row ≤ target_count parts → length (touches_upto parts row unit) ≤ length (touches_of parts unit)
unfolding touches_of touched_rows
touches_of-most parts row unit h =
    let e : row + (target_count parts - row) ≡ target_count parts = omega arith in
    omega (arith, touches_upto-le parts (target_count parts - row) row unit, ap (λ n. length (touches_upto parts n unit)) e)

-- lists of touched rows as they are filled: those of the rows so far, and the room of all
pub record AreTouches (parts : Parts) (row : ℕ) (filling : Filling Touch) : Type 0 where
  pub lists : filling.lists ≡ list_below (unit_count parts) (touches_upto parts row)
  pub room : filling.room ≡ map length (list_below (unit_count parts) (touches_of parts))

pub touches-start : (parts : Parts) (counts : List ℕ) (filling : Filling Touch) → counts ≡ map length (list_below (unit_count parts) (touches_of parts)) → filling ≡ record { lists = empty_lists (length counts); room = counts } → AreTouches parts 0 filling
touches-start parts counts filling e is =
    let n : ℕ = unit_count parts in
    let len : length counts ≡ n = ap length e ∙ length-map (list_below n (touches_of parts)) length ∙ length-list_below n (touches_of parts) in
    record {
      lists = ap (λ (v : Filling Touch). v.lists) is ∙ ap (λ m. empty_lists {X = Touch} m) len ∙ touches-none parts;
      room = ap (λ (v : Filling Touch). v.room) is ∙ e;
    }

pub length-touches : (parts : Parts) (row : ℕ) (filling : Filling Touch) → AreTouches parts row filling → length filling.lists ≡ unit_count parts
length-touches parts row filling are = ap length are.lists ∙ length-list_below (unit_count parts) (touches_upto parts row)

pub touches-room : (parts : Parts) (row part : ℕ) (holders : List (ℕ × ℕ)) (filling : Filling Touch) → IsValid parts → row < target_count parts → part ≡ greatest_part_of parts (target_at parts row) → holders ≡ holders_of parts.amounts (target_at parts row).feature → AreTouches parts row filling → HasRoom filling (touching row part holders)
touches-room parts row part holders filling valid h e f are k inside =
    let near : k < unit_count parts = omega (arith, length-touches parts row filling are) in
    let so_far : length (get_or filling.lists k []) ≡ length (touches_upto parts row k) = ap (λ ls. length (get_or ls k [])) are.lists ∙ ap length (get_or-list_below {X = List Touch} (unit_count parts) k (touches_upto parts row) [] near) in
    let more : values_at k (touching row part holders) ≡ cond (is_touched parts k row) (as_touch row (amount_for parts row k) ∷ []) [] = ap (λ hs. values_at k (touching row part hs)) f ∙ values_at-touching parts row k part valid (zone-inside parts row valid h) e in
    let next : length (touches_upto parts (row + 1) k) ≡ length (touches_upto parts row k) + length (values_at k (touching row part holders)) =
    ap length (touches_upto-more parts row k ∙ ap (λ vs. touches_upto parts row k ++ vs) (sym more)) ∙ length-append (touches_upto parts row k) (values_at k (touching row part holders)) in
    let room : get_or filling.room k 0 ≡ length (touches_of parts k) =
    ap (λ rs. get_or rs k 0) are.room ∙ get_or-map length (list_below (unit_count parts) (touches_of parts)) k [] 0 (omega (arith, length-list_below (unit_count parts) (touches_of parts))) ∙ ap length (get_or-list_below {X = List Touch} (unit_count parts) k (touches_of parts) [] near) in
    omega (arith, touches_of-most parts (row + 1) k (omega arith))

pub touches-next : (parts : Parts) (row part : ℕ) (holders : List (ℕ × ℕ)) (filling one : Filling Touch) → IsValid parts → row < target_count parts → part ≡ greatest_part_of parts (target_at parts row) → holders ≡ holders_of parts.amounts (target_at parts row).feature → AreTouches parts row filling
    → one ≡ record filling { lists = filled filling.lists (touching row part holders) } → AreTouches parts (row + 1) one
touches-next parts row part holders filling one valid h e f are is = record {
  lists = touches-more parts row part holders filling.lists one.lists valid h e f are.lists (ap (λ (v : Filling Touch). v.lists) is);
  room = ap (λ (v : Filling Touch). v.room) is ∙ are.room;
}

pub touches-whole : (parts : Parts) (n : ℕ) (filling : Filling Touch) → n ≡ target_count parts → AreTouches parts n filling → filling.lists ≡ list_below (unit_count parts) (touches_of parts)
touches-whole parts n filling e are = touches-done parts n filling.lists e are.lists

-- what stands behind the next holder
pub touching-split : (row part : ℕ) (holders : List (ℕ × ℕ)) (i : ℕ) → i < length holders → touching row part holders ≡ touching row part (take (i + 1) holders) ++ touching row part (drop (i + 1) holders)
touching-split row part holders i h =
    let entry : ℕ × ℕ → ℕ × Touch = λ (holder : ℕ × ℕ). (holder.0, as_touch row holder.1) in
    let test : ℕ × ℕ → Bool = λ (holder : ℕ × ℕ). nat_le 500000 (holder.1 * part) in
    ap (touching row part) (sym (take-append-drop (i + 1) holders)) ∙ ap (map entry) (filter-append test (take (i + 1) holders) (drop (i + 1) holders)) ∙ map-append entry (filter test (take (i + 1) holders)) (filter test (drop (i + 1) holders))
