-- Places that rise.
use Rattle.std.proofs.Common.{◌≡◌, ℕ, ◌+◌, ◌-◌, ◌<◌, ◌≤◌, suc, cond, List, [], ◌∷◌, length, get_or, map, drop, ◌∙◌, ap, subst, arith}
use Rattle.std.specs.Prelude.{All, sum, ◌==◌, slice_index}
use Rattle.std.specs.List.{sum_by, AllPairs}
use Rattle.std.specs.List.Sorted.{IsStrictlyIncreasing}
use Rattle.std.proofs.lemmas.Bool.Decides.{nat_tests}
use Rattle.std.proofs.lemmas.List.{drop-drop}
use Rattle.std.proofs.lemmas.List.Sums.{sum_by-cons, sum_by-drop_more, sum_by-take-drop}
use Rattle.std.proofs.lemmas.List.Elements.{All-head, All-tail, All-map}
use Rattle.std.proofs.lemmas.List.Kept.{AllPairs-from_increasing}
use Rattle.mz_penalty.specs.Order.{HeldAmount}
use Rattle.mz_penalty.specs.Base.{held_by}
use Rattle.mz_penalty.proofs.SumLemmas.{sum_by-map, sum_by-nothing, sum_by-same}

-- 1 at a place, and 0 elsewhere
abbrev pub at_place : ℕ → ℕ → ℕ
at_place place n = cond (n == place) 1 0

pairs-head : (n : ℕ) (ns : List ℕ) → AllPairs (λ x y. x < y) (n ∷ ns) → All (λ m. n < m) ns
pairs-head n ns pairs = λ k d h. pairs 0 (suc k) d (omega arith) (omega arith)

pairs-tail : (n : ℕ) (ns : List ℕ) → AllPairs (λ x y. x < y) (n ∷ ns) → AllPairs (λ x y. x < y) ns
pairs-tail n ns pairs = λ i j d below within. pairs (suc i) (suc j) d (omega arith) (omega arith)

elsewhere : (place n : ℕ) → place < n → at_place place n ≡ 0
elsewhere place n h = grind (arith, nat_tests)

once-step : (place n rest : ℕ) → rest ≤ 1 → (n ≡ place → rest ≡ 0) → at_place place n + rest ≤ 1
once-step place n rest small none = grind (arith, nat_tests)

-- a place stands at most once among places that rise
once : (place : ℕ) (ns : List ℕ) → AllPairs (λ x y. x < y) ns → sum_by (at_place place) ns ≤ 1
once place [] pairs = omega arith
once place (n ∷ ns) pairs =
    let rest : sum_by (at_place place) ns ≤ 1 = once place ns (pairs-tail n ns pairs) in
    let none : n ≡ place → sum_by (at_place place) ns ≡ 0 =
    λ e. sum_by-same (at_place place) (λ m. 0) ns
    (λ k d h. elsewhere place (get_or ns k d) (subst (λ p. p < get_or ns k d) e (pairs-head n ns pairs k d h)))
    ∙ sum_by-nothing ns in
    let whole : sum_by (at_place place) (n ∷ ns) ≡ at_place place n + sum_by (at_place place) ns = sum_by-cons (at_place place) n ns in
    let few : at_place place n + sum_by (at_place place) ns ≤ 1 = once-step place n (sum_by (at_place place) ns) rest none in
    omega arith

-- what stands further back in a list has no greater sum
sum-drop-le : (xs : List ℕ) (low n : ℕ) → low ≤ n → sum_by (λ x. x) (drop n xs) ≤ sum_by (λ x. x) (drop low xs)
sum-drop-le xs low n h =
    let further : drop (n - low) (drop low xs) ≡ drop n xs = drop-drop (n - low) low xs ∙ ap (λ m. drop m xs) (omega arith) in
    let split = sum_by-take-drop (λ x. x) (drop low xs) (n - low) in
    let same : sum_by (λ x. x) (drop (n - low) (drop low xs)) ≡ sum_by (λ x. x) (drop n xs) = ap (λ ys. sum_by (λ x. x) ys) further in
    omega arith

-- the values at places that rise are a part of the whole sum
values-le : (xs : List ℕ) (low : ℕ) (ns : List ℕ) → All (λ n. low ≤ n) ns → All (λ n. n < length xs) ns → AllPairs (λ x y. x < y) ns → sum_by (λ n. slice_index xs n) ns ≤ sum_by (λ x. x) (drop low xs)
values-le xs low [] from within pairs = omega arith
values-le xs low (n ∷ ns) from within pairs =
    let above : low ≤ n = All-head (λ m. low ≤ m) n ns from in
    let inside : n < length xs = All-head (λ m. m < length xs) n ns within in
    let later : All (λ m. n + 1 ≤ m) ns = λ k d h. let far = pairs-head n ns pairs k d h in omega arith in
    let rest : sum_by (λ m. slice_index xs m) ns ≤ sum_by (λ x. x) (drop (n + 1) xs) =
    values-le xs (n + 1) ns later (All-tail (λ m. m < length xs) n ns within) (pairs-tail n ns pairs) in
    let whole = sum_by-cons (λ m. slice_index xs m) n ns in
    let step : sum_by (λ x. x) (drop n xs) ≡ slice_index xs n + sum_by (λ x. x) (drop (n + 1) xs) = sum_by-drop_more (λ x. x) xs n 0 inside in
    let back = sum-drop-le xs low n above in
    omega arith

-- so of units whose places rise no two have the same
pub places-once : (raw : List ℕ) (amounts : List (ℕ × ℕ)) → IsStrictlyIncreasing (map (λ (unit : ℕ × ℕ). unit.0) amounts) → (place : ℕ) → sum_by (λ (unit : HeldAmount). at_place place unit.place) (held_by raw amounts) ≤ 1
places-once raw amounts rising place =
    let few = once place (map (λ (unit : ℕ × ℕ). unit.0) amounts) (AllPairs-from_increasing _ rising) in
    let there = sum_by-map (λ (unit : HeldAmount). at_place place unit.place) (λ (unit : ℕ × ℕ). record { place = unit.0; cost = slice_index raw unit.0; amount = unit.1 }) amounts in
    let here = sum_by-map (at_place place) (λ (unit : ℕ × ℕ). unit.0) amounts in
    omega arith

-- and their costs are a part of all costs
pub costs-le : (raw : List ℕ) (amounts : List (ℕ × ℕ)) → All (λ (unit : ℕ × ℕ). unit.0 < length raw) amounts → IsStrictlyIncreasing (map (λ (unit : ℕ × ℕ). unit.0) amounts) → sum_by (λ (unit : HeldAmount). unit.cost) (held_by raw amounts) ≤ sum raw
costs-le raw amounts within rising =
    let part = values-le raw 0 (map (λ (unit : ℕ × ℕ). unit.0) amounts) (λ k d h. omega arith) (All-map (λ n. n < length raw) (λ (unit : ℕ × ℕ). unit.0) amounts within) (AllPairs-from_increasing _ rising) in
    let there = sum_by-map (λ (unit : HeldAmount). unit.cost) (λ (unit : ℕ × ℕ). record { place = unit.0; cost = slice_index raw unit.0; amount = unit.1 }) amounts in
    let here = sum_by-map (λ n. slice_index raw n) (λ (unit : ℕ × ℕ). unit.0) amounts in
    omega arith
