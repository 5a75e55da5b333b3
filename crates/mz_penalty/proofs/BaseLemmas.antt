-- The base that sorted units give.
use Rattle.std.proofs.Common.{◌≡◌, ℕ, ◌+◌, ◌<◌, ◌≤◌, suc, true, false, List, [], ◌∷◌, length, get_or, map, max, sym, ◌∙◌, ap, subst, arith}
use Rattle.std.specs.Prelude.{All, sum}
use Rattle.std.specs.List.{sum_by}
use Rattle.std.specs.List.Sorted.{IsPermutation, IsSortedBy, IsStrictlyIncreasing}
use Rattle.std.proofs.lemmas.Bool.Decides.{nat_tests}
use Rattle.std.proofs.lemmas.List.Elements.{All-map}
use Rattle.std.proofs.lemmas.List.Sums.{sum_by-cons, get_or-le-sum_by}
use Rattle.std.proofs.lemmas.List.Sorted.{sorted_far, sum_by-IsPermutation, IsPermutation-map}
use Rattle.mz_penalty.specs.declared.holder.Holder.{Holder}
use Rattle.mz_penalty.specs.Order.{HeldAmount, comes_before}
use Rattle.mz_penalty.specs.Base.{base_of, cost_taken, held_by}
use Rattle.mz_penalty.specs.Ordered.{base_until, held}
use Rattle.mz_penalty.proofs.OrderLemmas.{before_from_not, units_are_ordered}
use Rattle.mz_penalty.proofs.PlaceLemmas.{at_place, places-once, costs-le}
use Rattle.mz_penalty.proofs.SumLemmas.{sum_by-map}
use Rattle.mz_penalty.proofs.TakenLemmas.{IsInOrder, cost_taken-in_order}

-- of a place that stands once, the others differ
apart : (place other rest whole : ℕ) → whole ≡ at_place place place + rest → whole ≤ 1 → at_place place other ≤ rest → place ≡ other → ⊥
apart place other rest whole e few there same = grind (arith, nat_tests)

-- units that are sorted, no two at one place, are in order
pub sorted-in_order : (units : List Holder) → ((i j : ℕ) (d : Holder) → i ≤ j → j < length units → comes_before (held (get_or units j d)) (held (get_or units i d)) ≡ false) → ((place : ℕ) → sum_by (λ (unit : Holder). at_place place unit.place) units ≤ 1) → IsInOrder (map held units)
sorted-in_order [] far once = tt
sorted-in_order (unit ∷ units) far once = (
  All-map (λ other. (comes_before (held unit) other ≡ true) × (comes_before other (held unit) ≡ false)) held units
      (λ k d h.
      let later : comes_before (held (get_or units k d)) (held unit) ≡ false = far 0 (suc k) d (omega arith) (omega arith) in
      let other : unit.place ≡ (get_or units k d).place → ⊥ =
      apart unit.place (get_or units k d).place (sum_by (λ (o : Holder). at_place unit.place o.place) units) (sum_by (λ (o : Holder). at_place unit.place o.place) (unit ∷ units))
      (sum_by-cons (λ (o : Holder). at_place unit.place o.place) unit units) (once unit.place)
      (get_or-le-sum_by (λ (o : Holder). at_place unit.place o.place) units k d h) in
      (before_from_not (held unit) (held (get_or units k d)) other later, later)),
  sorted-in_order units (λ i j d below within. far (suc i) (suc j) d (omega arith) (omega arith))
      (λ place. let whole = sum_by-cons (λ (o : Holder). at_place place o.place) unit units in let few = once place in omega arith),
)

-- units in another order hold what they held
pub held_moved : (units ordered : List Holder) (whole : List HeldAmount) → map held units ≡ whole → IsPermutation units ordered → IsPermutation whole (map held ordered)
held_moved units ordered whole e same = subst (λ hs. IsPermutation hs (map held ordered)) e (IsPermutation-map held units ordered same)

-- a sum over the units and over what they hold in another order
sum-of_units : (f : HeldAmount → ℕ) (whole : List HeldAmount) (ordered : List Holder) → IsPermutation whole (map held ordered) → sum_by (λ unit. f (held unit)) ordered ≡ sum_by f whole
sum-of_units f whole ordered same = sym (sum_by-map f held ordered) ∙ sum_by-IsPermutation f whole (map held ordered) same

pub costs_fit : (raw : List ℕ) (amounts : List (ℕ × ℕ)) (ordered : List Holder) (most : ℕ) → All (λ (unit : ℕ × ℕ). unit.0 < length raw) amounts → IsStrictlyIncreasing (map (λ (unit : ℕ × ℕ). unit.0) amounts) → sum raw ≤ most → IsPermutation (held_by raw amounts) (map held ordered) → sum_by (λ unit. unit.cost) ordered ≤ most
costs_fit raw amounts ordered most within rising small same =
    let there = sum-of_units (λ unit. unit.cost) (held_by raw amounts) ordered same in
    let part = costs-le raw amounts within rising in
    omega arith

-- the bases by level, as one function
pub bases_are : (raw : List ℕ) (amounts : List (ℕ × ℕ)) (ordered : List Holder) → IsStrictlyIncreasing (map (λ (unit : ℕ × ℕ). unit.0) amounts) → IsPermutation (held_by raw amounts) (map held ordered) → IsSortedBy (λ a b. comes_before (held a) (held b)) ordered → base_until (map held ordered) ≡ base_of raw amounts
unfolding base_of
bases_are raw amounts ordered rising same sorted =
    let once : (place : ℕ) → sum_by (λ (unit : Holder). at_place place unit.place) ordered ≤ 1 =
    λ place. subst (λ n. n ≤ 1) (sym (sum-of_units (λ unit. at_place place unit.place) (held_by raw amounts) ordered same)) (places-once raw amounts rising place) in
    let order : IsInOrder (map held ordered) = sorted-in_order ordered (sorted_far (λ a b. comes_before (held a) (held b)) units_are_ordered ordered sorted) once in
    let each : (level : ℕ) → base_until (map held ordered) level ≡ max (cost_taken (held_by raw amounts) level) 10000 = λ level. ap (λ n. max n 10000) (cost_taken-in_order (held_by raw amounts) (map held ordered) level same order) in
    λ i level. each level i
