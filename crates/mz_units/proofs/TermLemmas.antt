-- The cost terms, while they are added.
use Rattle.std.proofs.Common.{◌≡◌, ℕ, ◌+◌, ◌*◌, ◌^◌, ◌<◌, ◌≤◌, List, [], ◌∷◌, ◌++◌, length, get_or, ap, sym, ◌∙◌, arith, inl, inr, append_assoc, length-append}
use Rattle.std.specs.List.{All, range_with_len, sum_by}
use Rattle.std.proofs.Math.Nat.{mul-le-mul, mul-le-mul_right}
use Rattle.std.proofs.lemmas.Bool.{cases_lt}
use Rattle.std.proofs.lemmas.List.{get_or-append-add, get_or_append_left, map-id}
use Rattle.std.proofs.lemmas.List.Elements.{All-get_or}
use Rattle.std.proofs.lemmas.List.FromFn.{map-range_with_len_more}
use Rattle.std.proofs.lemmas.List.Sums.{sum_by_push}
use Rattle.std.proofs.lemmas.Nat.{mul-add-lt}
use Rattle.mz_num.specs.Round.{round}
use Rattle.mz_num.specs.Places.{list_below}
use Rattle.mz_units.specs.Terms.{HasCosts, cost_term}
use Rattle.mz_units.specs.declared.units.UnitList.{UnitList}
use Rattle.mz_num.proofs.PlaceLaws.{length-list_below, get_or-list_below}

-- ---- one term

range_more : (n : ℕ) → range_with_len 0 (n + 1) ≡ range_with_len 0 n ++ n ∷ []
range_more n = sym (map-id (range_with_len 0 (n + 1))) ∙ map-range_with_len_more (λ k. k) 0 n n (omega arith) ∙ ap (λ (ks : List ℕ). ks ++ n ∷ []) (map-id (range_with_len 0 n))

pub record IsSumSoFar (costs : ℕ) (unit_costs mult : List ℕ) (unit zone cost sum : ℕ) : Type 0 where
  pub sum_is : sum ≡ sum_by (λ c. get_or mult (zone * costs + c) 0 * get_or unit_costs (unit * costs + c) 0) (range_with_len 0 cost)
  pub small : sum ≤ cost * (10 ^ 18 * 10 ^ 18)

-- a number of a list of small ones
pub small-at : (numbers : List ℕ) (i number : ℕ) → All (λ n. n ≤ 10 ^ 18) numbers → i < length numbers → number ≡ get_or numbers i 0 → number ≤ 10 ^ 18
small-at numbers i number small h e = let at : get_or numbers i 0 ≤ 10 ^ 18 = All-get_or (λ n. n ≤ 10 ^ 18) numbers i 0 h small in omega arith

more_small : (n m sum product : ℕ) → sum ≤ n * m → product ≤ m → sum + product ≤ (n + 1) * m
more_small n m sum product h k = omega arith

pub sum-more : (costs : ℕ) (unit_costs mult : List ℕ) (unit zone cost sum multiplier unit_cost : ℕ) → IsSumSoFar costs unit_costs mult unit zone cost sum → multiplier ≡ get_or mult (zone * costs + cost) 0 → unit_cost ≡ get_or unit_costs (unit * costs + cost) 0 → multiplier ≤ 10 ^ 18 → unit_cost ≤ 10 ^ 18 → IsSumSoFar costs unit_costs mult unit zone (cost + 1) (sum + multiplier * unit_cost)
sum-more costs unit_costs mult unit zone cost sum multiplier unit_cost so_far m u small_m small_u =
    let f : ℕ → ℕ = λ c. get_or mult (zone * costs + c) 0 * get_or unit_costs (unit * costs + c) 0 in
    record {
      sum_is = ap (λ n. n + multiplier * unit_cost) so_far.sum_is ∙ ap (λ n. sum_by f (range_with_len 0 cost) + n * unit_cost) m ∙ ap (λ n. sum_by f (range_with_len 0 cost) + get_or mult (zone * costs + cost) 0 * n) u
          ∙ sym (ap (sum_by f) (range_more cost) ∙ sum_by_push f (range_with_len 0 cost) cost);
      small = more_small cost (10 ^ 18 * 10 ^ 18) sum (multiplier * unit_cost) so_far.small (mul-le-mul small_m small_u);
    }

-- the term of a whole sum
pub term-is : (costs : ℕ) (unit_costs mult : List ℕ) (unit zone cost sum term : ℕ) → IsSumSoFar costs unit_costs mult unit zone cost sum → cost ≡ costs → term ≡ round sum (10 ^ 6) → term ≡ cost_term costs unit_costs mult unit zone
unfolding cost_term
term-is costs unit_costs mult unit zone cost sum term so_far all e =
    e ∙ ap (λ n. round n (10 ^ 6)) (so_far.sum_is ∙ ap (λ n. sum_by (λ c. get_or mult (zone * costs + c) 0 * get_or unit_costs (unit * costs + c) 0) (range_with_len 0 n)) all)

-- ---- the terms of a unit

pub terms-more : (zone : ℕ) (f : ℕ → ℕ) (before terms terms' : List ℕ) (term : ℕ) → terms ≡ before ++ list_below zone f → term ≡ f zone → terms' ≡ terms ++ term ∷ [] → terms' ≡ before ++ list_below (zone + 1) f
terms-more zone f before terms terms' term so_far is e =
    e ∙ ap (λ (ts : List ℕ). ts ++ term ∷ []) so_far ∙ append_assoc before (list_below zone f) (term ∷ [])
    ∙ ap (λ t. before ++ (list_below zone f ++ t ∷ [])) is
    ∙ ap (λ (ts : List ℕ). before ++ ts) (sym (map-range_with_len_more f 0 zone zone (omega arith)))

-- ---- the terms of all units

pub record AreTermsSoFar (costs : ℕ) (unit_costs mult : List ℕ) (zones unit : ℕ) (terms : List ℕ) : Type 0 where
  pub count : length terms ≡ unit * zones
  pub each : (u z : ℕ) → u < unit → z < zones → get_or terms (u * zones + z) 0 ≡ cost_term costs unit_costs mult u z

one_more : (unit zones : ℕ) → (unit + 1) * zones ≡ unit * zones + zones
one_more unit zones = omega arith

pub terms-unit : (costs : ℕ) (unit_costs mult : List ℕ) (zones unit : ℕ) (terms terms' : List ℕ) → AreTermsSoFar costs unit_costs mult zones unit terms → terms' ≡ terms ++ list_below zones (cost_term costs unit_costs mult unit) → AreTermsSoFar costs unit_costs mult zones (unit + 1) terms'
terms-unit costs unit_costs mult zones unit terms terms' so_far e = record {
  count = ap length e ∙ length-append terms (list_below zones (cost_term costs unit_costs mult unit)) ∙ ap (λ n. n + length (list_below zones (cost_term costs unit_costs mult unit))) so_far.count ∙ ap (λ n. unit * zones + n) (length-list_below zones (cost_term costs unit_costs mult unit)) ∙ sym (one_more unit zones);
  each = λ u z h k. ap (λ (ts : List ℕ). get_or ts (u * zones + z) 0) e ∙ elim (cases_lt u unit) [
    | inl less ↦ (get_or_append_left terms (list_below zones (cost_term costs unit_costs mult unit)) 0 (u * zones + z) (omega (arith, mul-add-lt u zones z unit less k, so_far.count)) ∙ so_far.each u z less k)
    | inr most ↦ (let last : u ≡ unit = omega arith in
        ap (λ n. get_or (terms ++ list_below zones (cost_term costs unit_costs mult unit)) (n + z) 0) (ap (λ n. n * zones) last ∙ sym so_far.count)
        ∙ get_or-append-add terms (list_below zones (cost_term costs unit_costs mult unit)) z 0
        ∙ get_or-list_below zones z (cost_term costs unit_costs mult unit) 0 k
        ∙ ap (λ n. cost_term costs unit_costs mult n z) (sym last))
  ];
}

-- ---- how many costs there are

-- the number that was counted, for whichever number of costs there is
pub record IsCount (count : ℕ) (multipliers zones : ℕ) : Type 0 where
  pub counted : (costs : ℕ) → multipliers ≡ zones * costs → 0 < zones → count ≡ costs
  pub nothing : zones ≡ 0 → count ≡ 0

pub record Fits (count : ℕ) (unit_costs mult : List ℕ) (zones unit : ℕ) : Type 0 where
  pub few : count ≤ 60
  pub unit_costs_fit : unit * count + count ≤ length unit_costs
  pub multipliers_fit : zones * count ≤ length mult

next_unit : (unit units count : ℕ) → unit < units → unit * count + count ≤ units * count
next_unit unit units count h = let step : (unit + 1) * count ≤ units * count = mul-le-mul_right count (omega arith) in omega arith

ap_le : (a b c : ℕ) → a ≤ b → b ≡ c → a ≤ c
ap_le a b c h e = omega arith

nothing_fits : (unit count most : ℕ) → count ≡ 0 → unit * count + count ≤ most
nothing_fits unit count most e = let same : unit * count + count ≡ unit * 0 + 0 = ap (λ n. unit * n + n) e in omega arith

nothing_left : (zones count most : ℕ) → count ≡ 0 → zones * count ≤ most
nothing_left zones count most e = let same : zones * count ≡ zones * 0 = ap (λ n. zones * n) e in omega arith

pub count-fits : (costs count : ℕ) (units : UnitList) (mult : List ℕ) (zones unit : ℕ) → HasCosts costs units mult zones → IsCount count (length mult) zones → unit < length units.ids → Fits count units.costs mult zones unit
count-fits costs count units mult zones unit has is h = elim (cases_lt 0 zones) [
  | inl some ↦ (let same : count ≡ costs = is.counted costs has.multipliers some in
      record {
        few = omega (arith, has.few);
        unit_costs_fit = ap_le (unit * count + count) (length units.ids * count) (length units.costs) (next_unit unit (length units.ids) count h) (ap (λ n. length units.ids * n) same ∙ sym has.unit_costs);
        multipliers_fit = ap_le (zones * count) (zones * count) (length mult) (omega arith) (ap (λ n. zones * n) same ∙ sym has.multipliers);
      })
  | inr none ↦ (let zero : count ≡ 0 = is.nothing (omega arith) in
      record { few = omega arith; unit_costs_fit = nothing_fits unit count (length units.costs) zero; multipliers_fit = nothing_left zones count (length mult) zero })
]
