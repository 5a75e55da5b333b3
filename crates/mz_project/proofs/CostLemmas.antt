-- The cost terms of an area, and their limits.
use Rattle.std.proofs.Common.{◌≡◌, ℕ, zero, suc, ◌+◌, ◌*◌, ◌/◌, ◌%◌, ◌^◌, ◌<◌, ◌≤◌, max, Bool, true, false, ◌||◌, ◌⊎◌, inl, inr, ltb, List, length, get_or, refl, sym, ap, subst, ◌∙◌, arith}
use Rattle.std.specs.Prelude.{slice_index}
use Rattle.std.specs.List.{sum}
use Rattle.std.proofs.lemmas.Bool.{lt-ltb, le-ltb, ltb-false, ltb-true}
use Rattle.mz_num.specs.Places.{sum_below, greatest_below}
use Rattle.mz_num.proofs.PlaceLaws.{list_below-from, sum_below-same, at-le-sum_below, at-le-greatest_below}
use Rattle.mz_units.specs.Terms.{AreCostTerms, HasCosts}
use Rattle.mz_project.specs.declared.area.Area.{Area}
use Rattle.mz_project.specs.Area.{FitsArea}
use Rattle.mz_project.specs.Limits.{is_above, costs_are_above}
use Rattle.mz_project.specs.Costs.{raw_cost, greatest_cost}
use Rattle.mz_project.specs.Costs.{term_of, terms_of}
use Rattle.mz_project.proofs.BelowLemmas.{or_true, right_false}
use Rattle.mz_rows.proofs.PairLemmas.{first-below, second-below, pair-whole}

-- the terms of an area
abbrev pub AreTerms : Area → List ℕ → Type 0
AreTerms area terms = AreCostTerms (length area.costs.ids) area.units area.multipliers (length area.zones.ids) terms

has_costs : (area : Area) → FitsArea area → HasCosts (length area.costs.ids) area.units area.multipliers (length area.zones.ids)
has_costs area fit = record { few = fit.costs.few; unit_costs = fit.units.all_costs; multipliers = fit.multipliers.all_pairs }

term_at : (area : Area) (terms : List ℕ) (place : ℕ) → AreTerms area terms → place < length area.units.ids * length area.zones.ids
    → get_or terms place 0 ≡ term_of area (place / length area.zones.ids) (place % length area.zones.ids)
term_at area terms place are within =
    ap (λ p. get_or terms p 0) (sym (pair-whole place (length area.zones.ids)))
    ∙ are.each (place / length area.zones.ids) (place % length area.zones.ids) (first-below place (length area.units.ids) (length area.zones.ids) within) (second-below place (length area.units.ids) (length area.zones.ids) within)

terms_are : (area : Area) (terms : List ℕ) → AreTerms area terms → terms ≡ terms_of area
unfolding terms_of
terms_are area terms are =
    list_below-from (length area.units.ids * length area.zones.ids) (λ place. term_of area (place / length area.zones.ids) (place % length area.zones.ids)) terms 0 are.all_pairs (λ place within. term_at area terms place are within)

greatest_below-same : (n : ℕ) (f g : ℕ → ℕ) → ((k : ℕ) → k < n → f k ≡ g k) → greatest_below n f ≡ greatest_below n g
greatest_below-same zero f g same = refl
greatest_below-same (suc n) f g same = ap (λ m. max m (f n)) (greatest_below-same n f g (λ k below. same k (omega arith))) ∙ ap (λ m. max (greatest_below n g) m) (same n (omega arith))

-- what the units cost in their dearest zones, by the terms
greatest_is : (area : Area) (terms : List ℕ) (units zones : ℕ) → units ≡ length area.units.ids → zones ≡ length area.zones.ids → AreTerms area terms
    → sum_below units (λ unit. greatest_below zones (λ zone. slice_index terms (unit * zones + zone))) ≡ greatest_cost area
greatest_is area terms units zones units_are zones_are are =
    ap (λ n. sum_below n (λ unit. greatest_below zones (λ zone. slice_index terms (unit * zones + zone)))) units_are
    ∙ ap (λ n. sum_below (length area.units.ids) (λ unit. greatest_below n (λ zone. slice_index terms (unit * n + zone)))) zones_are
    ∙ sum_below-same (length area.units.ids) (λ unit. greatest_below (length area.zones.ids) (λ zone. slice_index terms (unit * length area.zones.ids + zone))) (λ unit. greatest_below (length area.zones.ids) (term_of area unit))
    (λ unit below. greatest_below-same (length area.zones.ids) (λ zone. slice_index terms (unit * length area.zones.ids + zone)) (term_of area unit) (λ zone within. are.each unit zone below within))

or_left : (a b : Bool) → a ≡ true → (a || b) ≡ true
or_left a b e = ap (λ c. c || b) e

neither : (a b : Bool) → a ≡ false → b ≡ false → (a || b) ≡ false
neither a b e f = ap (λ c. c || b) e ∙ f

dear_at : (area : Area) (unit zone : ℕ) → unit < length area.units.ids → zone < length area.zones.ids → 10 ^ 18 < term_of area unit zone → 10 ^ 18 < greatest_cost area
dear_at area unit zone below within above =
    let in_zone = at-le-greatest_below (length area.zones.ids) zone (term_of area unit) within in
    let in_sum = at-le-sum_below (length area.units.ids) unit (λ u. greatest_below (length area.zones.ids) (term_of area u)) below in
    omega (arith, above, in_zone, in_sum)

-- one term above the limit is enough
dear_term : (area : Area) (terms : List ℕ) (k : ℕ) → AreTerms area terms → k < length terms → 10 ^ 18 < slice_index terms k → costs_are_above area ≡ true
unfolding costs_are_above
dear_term area terms k are within above =
    let below : k < length area.units.ids * length area.zones.ids = subst (λ n. k < n) are.all_pairs within in
    or_true (is_above (raw_cost area)) (is_above (greatest_cost area))
    (lt-ltb (10 ^ 18) (greatest_cost area)
    (dear_at area (k / length area.zones.ids) (k % length area.zones.ids) (first-below k (length area.units.ids) (length area.zones.ids) below) (second-below k (length area.units.ids) (length area.zones.ids) below)
    (subst (λ n. 10 ^ 18 < n) (term_at area terms k are below) above)))

dear_raw : (area : Area) → 10 ^ 18 < raw_cost area → costs_are_above area ≡ true
unfolding costs_are_above
dear_raw area above = or_left (is_above (raw_cost area)) (is_above (greatest_cost area)) (lt-ltb (10 ^ 18) (raw_cost area) above)

dear_greatest : (area : Area) → 10 ^ 18 < greatest_cost area → costs_are_above area ≡ true
unfolding costs_are_above
dear_greatest area above = or_true (is_above (raw_cost area)) (is_above (greatest_cost area)) (lt-ltb (10 ^ 18) (greatest_cost area) above)

not_dear : (area : Area) → raw_cost area ≤ 10 ^ 18 → greatest_cost area ≤ 10 ^ 18 → costs_are_above area ≡ false
unfolding costs_are_above
not_dear area raw greatest = neither (is_above (raw_cost area)) (is_above (greatest_cost area)) (le-ltb (10 ^ 18) (raw_cost area) raw) (le-ltb (10 ^ 18) (greatest_cost area) greatest)

greater_above : (a b limit : ℕ) → limit < max a b → (limit < a) ⊎ (limit < b)
greater_above a b limit above = elim (ltb limit a) as (λ t. ltb limit a ≡ t → (limit < a) ⊎ (limit < b)) [
  | true ↦ λ e. inl (ltb-true limit a e)
  | false ↦ λ e. let low = ltb-false limit a e in inr (omega (arith, above, low))
] refl

-- the terms that were worked out are those of the area
pub are_terms : (area : Area) (mult terms : List ℕ) (zones : ℕ) → FitsArea area → mult ≡ area.multipliers → zones ≡ length area.zones.ids
    → ((costs : ℕ) → HasCosts costs area.units mult zones → AreCostTerms costs area.units mult zones terms) → AreTerms area terms
are_terms area mult terms zones fit e1 e2 promise =
    (subst (λ z. ((costs : ℕ) → HasCosts costs area.units area.multipliers z → AreCostTerms costs area.units area.multipliers z terms)) e2
    (subst (λ m. ((costs : ℕ) → HasCosts costs area.units m zones → AreCostTerms costs area.units m zones terms)) e1 promise)) (length area.costs.ids) (has_costs area fit)

-- the judgements of the costs
pub term_above : (area : Area) (terms numbers : List ℕ) → AreTerms area terms → numbers ≡ terms → ((k : ℕ) × (k < length numbers) × (10 ^ 18 < slice_index numbers k)) → costs_are_above area ≡ true
term_above area terms numbers are same (k, within, above) = dear_term area terms k are (subst (λ ns. k < length ns) same within) (subst (λ ns. 10 ^ 18 < slice_index ns k) same above)

record AreSums (area : Area) (raw greatest : ℕ) : Type 0 where
  raw_is : raw ≡ raw_cost area
  greatest_sum : greatest ≡ greatest_cost area

sums : (area : Area) (terms narrow : List ℕ) (units zones raw greatest : ℕ) → AreTerms area terms → narrow ≡ terms → units ≡ length area.units.ids → zones ≡ length area.zones.ids → raw ≡ sum area.units.costs
    → greatest ≡ sum_below units (λ unit. greatest_below zones (λ zone. slice_index narrow (unit * zones + zone))) → AreSums area raw greatest
sums area terms narrow units zones raw greatest are same units_are zones_are raw_is sum_is =
    record { raw_is = raw_is; greatest_sum = sum_is ∙ greatest_is area narrow units zones units_are zones_are (subst (AreTerms area) (sym same) are) }

pub sum_above : (area : Area) (terms narrow : List ℕ) (units zones raw greatest : ℕ) → AreTerms area terms → narrow ≡ terms → units ≡ length area.units.ids → zones ≡ length area.zones.ids → raw ≡ sum area.units.costs
    → greatest ≡ sum_below units (λ unit. greatest_below zones (λ zone. slice_index narrow (unit * zones + zone))) → 10 ^ 18 < max raw greatest → costs_are_above area ≡ true
sum_above area terms narrow units zones raw greatest are same units_are zones_are raw_is sum_is above =
    let all = sums area terms narrow units zones raw greatest are same units_are zones_are raw_is sum_is in
    elim (greater_above raw greatest (10 ^ 18) above) [ inl first ↦ dear_raw area (subst (λ n. 10 ^ 18 < n) all.raw_is first) | inr second ↦ dear_greatest area (subst (λ n. 10 ^ 18 < n) all.greatest_sum second) ]

pub sums_within : (area : Area) (terms narrow items : List ℕ) (units zones raw greatest : ℕ) → AreTerms area terms → narrow ≡ terms → items ≡ narrow → units ≡ length area.units.ids → zones ≡ length area.zones.ids → raw ≡ sum area.units.costs
    → greatest ≡ sum_below units (λ unit. greatest_below zones (λ zone. slice_index narrow (unit * zones + zone))) → max raw greatest ≤ 10 ^ 18 → (costs_are_above area ≡ false) × (items ≡ terms_of area)
sums_within area terms narrow items units zones raw greatest are same kept units_are zones_are raw_is sum_is low =
    let all = sums area terms narrow units zones raw greatest are same units_are zones_are raw_is sum_is in
    (not_dear area (subst (λ n. n ≤ 10 ^ 18) all.raw_is (omega (arith, low))) (subst (λ n. n ≤ 10 ^ 18) all.greatest_sum (omega (arith, low))), kept ∙ same ∙ terms_are area terms are)

-- what isn't dear is within the limit
pub within_limit : (area : Area) → costs_are_above area ≡ false → greatest_cost area ≤ 10 ^ 18
unfolding costs_are_above
within_limit area e = ltb-false (10 ^ 18) (greatest_cost area) (right_false (is_above (raw_cost area)) (is_above (greatest_cost area)) e)
