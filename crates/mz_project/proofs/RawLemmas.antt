-- The raw costs of units, and their sum.
use Rattle.std.proofs.Common.{◌≡◌, ℕ, zero, suc, ◌+◌, ◌-◌, ◌*◌, ◌^◌, ◌<◌, ◌≤◌, false, List, [], ◌∷◌, ◌++◌, length, take, refl, sym, ap, subst, ◌∙◌, add-one, arith}
use Rattle.std.specs.Prelude.{slice_index}
use Rattle.std.specs.List.{sum}
use Rattle.std.proofs.lemmas.Bool.{ltb-false}
use Rattle.std.proofs.lemmas.List.{take_all}
use Rattle.std.proofs.lemmas.List.Sums.{sum_by_more}
use Rattle.mz_num.specs.Places.{list_below, sum_below}
use Rattle.mz_num.proofs.PlaceLaws.{get_or-list_below, length-list_below, list_below-more, sum_below-same}
use Rattle.mz_project.specs.declared.area.Area.{Area}
use Rattle.mz_project.specs.Area.{FitsArea}
use Rattle.mz_project.specs.Limits.{costs_are_above, is_above}
use Rattle.mz_project.specs.Costs.{greatest_cost, raw_cost}
use Rattle.mz_project.specs.Costs.{raw_cost_of, raw_costs_of}
use Rattle.mz_project.proofs.BelowLemmas.{left_false}

-- sums of lists, place by place
sum-take : (xs : List ℕ) (n : ℕ) → n ≤ length xs → sum (take n xs) ≡ sum_below n (slice_index xs)
sum-take xs zero within = refl
sum-take xs (suc n) within = ap (λ m. sum (take m xs)) (sym (add-one n)) ∙ sum_by_more (λ x. x) xs n 0 (omega arith) ∙ ap (λ s. s + slice_index xs n) (sum-take xs n (omega arith))

pub sum-places : (xs : List ℕ) → sum xs ≡ sum_below (length xs) (slice_index xs)
sum-places xs = ap sum (sym (take_all (length xs) xs (omega arith))) ∙ sum-take xs (length xs) (omega arith)

pub sum-list_below : (n : ℕ) (f : ℕ → ℕ) → sum (list_below n f) ≡ sum_below n f
sum-list_below n f =
    sum-places (list_below n f) ∙ ap (λ m. sum_below m (slice_index (list_below n f))) (length-list_below n f) ∙ sum_below-same n (slice_index (list_below n f)) f (λ k below. get_or-list_below n k f 0 below)

-- sums over places, in two parts
sum_below-add : (n m : ℕ) (f : ℕ → ℕ) → sum_below (n + m) f ≡ sum_below n f + sum_below m (λ k. f (n + k))
sum_below-add n zero f = let same : n + zero ≡ n = omega arith in ap (λ i. sum_below i f) same ∙ omega arith
sum_below-add n (suc m) f =
    let next : n + suc m ≡ suc (n + m) = omega arith in
    let rest : sum_below (n + m) f ≡ sum_below n f + sum_below m (λ k. f (n + k)) = sum_below-add n m f in
    ap (λ i. sum_below i f) next ∙ omega (arith, rest)

sum_below-longer : (n m : ℕ) (f : ℕ → ℕ) → n ≤ m → sum_below n f ≤ sum_below m f
sum_below-longer n m f le =
    let whole : n + (m - n) ≡ m = omega arith in
    let parts : sum_below (n + (m - n)) f ≡ sum_below n f + sum_below (m - n) (λ k. f (n + k)) = sum_below-add n (m - n) f in
    let all : sum_below (n + (m - n)) f ≡ sum_below m f = ap (λ i. sum_below i f) whole in
    omega (arith, parts, all)

part-le : (first count most : ℕ) (f : ℕ → ℕ) → first + count ≤ most → sum_below count (λ k. f (first + k)) ≤ sum_below most f
part-le first count most f within =
    let parts : sum_below (first + count) f ≡ sum_below first f + sum_below count (λ k. f (first + k)) = sum_below-add first count f in
    let all : sum_below (first + count) f ≤ sum_below most f = sum_below-longer (first + count) most f within in
    omega (arith, parts, all)

-- a sum over pairs is one over their places in one list
pub sum_below-pairs : (n m : ℕ) (f : ℕ → ℕ) → sum_below n (λ first. sum_below m (λ second. f (first * m + second))) ≡ sum_below (n * m) f
sum_below-pairs zero m f = let none : 0 ≡ zero * m = omega arith in ap (λ i. sum_below i f) none
sum_below-pairs (suc n) m f =
    let next : n * m + m ≡ suc n * m = omega arith in
    let rest : sum_below n (λ first. sum_below m (λ second. f (first * m + second))) ≡ sum_below (n * m) f = sum_below-pairs n m f in
    let parts : sum_below (n * m + m) f ≡ sum_below (n * m) f + sum_below m (λ second. f (n * m + second)) = sum_below-add (n * m) m f in
    let both : sum_below n (λ first. sum_below m (λ second. f (first * m + second))) + sum_below m (λ second. f (n * m + second)) ≡ sum_below (n * m + m) f = omega (arith, rest, parts) in
    both ∙ ap (λ i. sum_below i f) next

-- the sum of a unit's first costs
pub part-within : (costs : List ℕ) (first cost count raw most : ℕ) → first + count ≤ length costs → cost < count → raw ≡ sum_below cost (λ k. slice_index costs (first + k)) → sum costs ≤ most → raw + slice_index costs (first + cost) ≤ most
part-within costs first cost count raw most inside below is small =
    let part : sum_below (suc cost) (λ k. slice_index costs (first + k)) ≤ sum_below (length costs) (slice_index costs) = part-le first (suc cost) (length costs) (slice_index costs) (omega (arith, inside, below)) in
    let all : sum costs ≡ sum_below (length costs) (slice_index costs) = sum-places costs in
    omega (arith, part, all, is, small)

-- all raw costs are all costs
pub costs-within : (area : Area) → costs_are_above area ≡ false → sum area.units.costs ≤ 10 ^ 18
unfolding costs_are_above
costs-within area within = ltb-false (10 ^ 18) (raw_cost area) (left_false (is_above (raw_cost area)) (is_above (greatest_cost area)) within)

raw-sum : (area : Area) → FitsArea area → sum (raw_costs_of area) ≡ sum area.units.costs
unfolding raw_costs_of
raw-sum area fit =
    sum-list_below (length area.units.ids) (raw_cost_of area)
    ∙ sum_below-pairs (length area.units.ids) (length area.costs.ids) (slice_index area.units.costs)
    ∙ ap (λ n. sum_below n (slice_index area.units.costs)) (sym fit.units.all_costs)
    ∙ sym (sum-places area.units.costs)

pub raw-within : (area : Area) (raw : List ℕ) → FitsArea area → costs_are_above area ≡ false → raw ≡ raw_costs_of area → sum raw ≤ 10 ^ 18
raw-within area raw fit within is = subst (λ n. n ≤ 10 ^ 18) (sym (ap sum is ∙ raw-sum area fit)) (costs-within area within)

pub length-raw : (area : Area) (raw : List ℕ) → raw ≡ raw_costs_of area → length raw ≡ length area.units.ids
unfolding raw_costs_of
length-raw area raw is = ap length is ∙ length-list_below (length area.units.ids) (raw_cost_of area)

-- one raw cost more
pub raw-more : (area : Area) (costs items items' : List ℕ) (unit count cost : ℕ) → costs ≡ area.units.costs → count ≡ length area.costs.ids → cost ≡ sum_below count (λ k. slice_index costs (unit * count + k)) → items ≡ list_below unit (raw_cost_of area)
    → items' ≡ items ++ cost ∷ [] → items' ≡ list_below (unit + 1) (raw_cost_of area)
raw-more area costs items items' unit count cost costs_are count_is is so_far more =
    more ∙ ap (λ xs. xs ++ cost ∷ []) so_far
    ∙ ap (λ n. list_below unit (raw_cost_of area) ++ n ∷ []) (is ∙ ap (λ cs. sum_below count (λ k. slice_index cs (unit * count + k))) costs_are ∙ ap (λ n. sum_below n (λ k. slice_index area.units.costs (unit * n + k))) count_is)
    ∙ sym (list_below-more unit (raw_cost_of area))

pub raw-all : (area : Area) (items : List ℕ) (unit : ℕ) → items ≡ list_below unit (raw_cost_of area) → unit ≡ length area.units.ids → items ≡ raw_costs_of area
unfolding raw_costs_of
raw-all area items unit are all = are ∙ ap (λ n. list_below n (raw_cost_of area)) all
