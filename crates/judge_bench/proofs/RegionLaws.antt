-- A region is a problem.
use Rattle.std.proofs.Common.{◌≡◌, ℕ, zero, suc, ◌+◌, ◌*◌, ◌<◌, ◌≤◌, ◌^◌, ◌==◌, ◌&&◌, true, false, cond, List, [], ◌∷◌, length, map, get_or, replicate, refl, ap, sym, ◌∙◌, subst, inl, inr, arith}
use Rattle.std.specs.Prelude.{slice_index, nat_lt, nat_le}
use Rattle.std.specs.List.{All, list_all}
use Rattle.std.proofs.lemmas.Bool.{cases_lt, leb-true, ltb-true}
use Rattle.std.proofs.lemmas.List.{get_or-replicate, length-map, length-replicate}
use Rattle.std.proofs.lemmas.List.Elements.{All-get_or, All-head, All-map, All-replicate, All-tail, All-weaker}
use Rattle.std.proofs.lemmas.List.Sums.{AllPass-from_list_all, sum_by-le}
use Rattle.std.proofs.Math.ListN.{get_or-eq_default}
use Rattle.std.proofs.Math.Nat.{mul-le-mul_left}
use Rattle.mz_num.proofs.RoundLaws.{round-le}
use Rattle.mz_model.specs.declared.parts.Parts.{Parts}
use Rattle.mz_model.specs.Amounts.{amount_of, holder_of, holders_of, total_of}
use Rattle.mz_model.specs.Boundary.{greatest_rate, IsLength}
use Rattle.mz_model.specs.Parts.{unit_count, zone_count, feature_count, cost_at, fraction_at, rate_at, target_at}
use Rattle.mz_num.specs.Places.{greatest_below, list_below, values_at}
use Rattle.mz_model.specs.Targets.{amount_for, gain_of}
use Rattle.mz_num.specs.ZoneSet.{IsZoneSet}
use Rattle.mz_model.specs.Valid.{AreDistinct, IsInShape, IsSmall, IsValid, IsWithinLimits}
use Rattle.mz_num.proofs.PlaceLaws.{get_or-list_below, greatest_below-le, length-list_below, length-values_at, sum_below-le, values_at-All}
use Rattle.mz_model.proofs.TargetLaws.{gain_from-overall, gain_of-is}
use Rattle.judge_bench.specs.Region.{AreRows, AreTargets, three_rates}

-- a list none of whose numbers is above a bound gives none above it, past its end too
get_or-le : (m : ℕ) (xs : List ℕ) (i : ℕ) → All (λ x. x ≤ m) xs → get_or xs i 0 ≤ m
get_or-le m xs i all = elim (cases_lt i (length xs)) [ inl h ↦ All-get_or (λ x. x ≤ m) xs i 0 h all | inr past ↦ omega (arith, get_or-eq_default xs 0 past) ]

places-distinct : (n : ℕ) → AreDistinct (list_below n (λ k. k))
places-distinct n i j d h k =
    let len : length (list_below n (λ (p : ℕ). p)) ≡ n = length-list_below n (λ (p : ℕ). p) in
    let one : get_or (list_below n (λ (p : ℕ). p)) i d ≡ i = get_or-list_below n i (λ (p : ℕ). p) d (omega arith) in
    let two : get_or (list_below n (λ (p : ℕ). p)) j d ≡ j = get_or-list_below n j (λ (p : ℕ). p) d (omega arith) in
    λ e. omega arith

below_three : (P : ℕ → Type 0) → P 0 → P 1 → P 2 → (k : ℕ) → k < 3 → P k
below_three P a b c zero h = a
below_three P a b c (suc zero) h = b
below_three P a b c (suc (suc zero)) h = c
below_three P a b c (suc (suc (suc k))) h = absurd (omega arith)

abbrev IsEven : ℕ → ℕ → Type 0
IsEven k l = get_or three_rates (k * 3 + l) 0 ≡ get_or three_rates (l * 3 + k) 0

three_rates-even : (k l : ℕ) → k < 3 → l < 3 → IsEven k l
three_rates-even k l h i = below_three (λ m. IsEven m l) (below_three (IsEven 0) refl refl refl l i) (below_three (IsEven 1) refl refl refl l i) (below_three (IsEven 2) refl refl refl l i) k h

three_rates-le : All (λ rate. rate ≤ 10 ^ 18) three_rates
three_rates-le = All-weaker (λ rate. nat_le rate (10 ^ 18) ≡ true) (λ rate. rate ≤ 10 ^ 18) (λ rate test. leb-true rate (10 ^ 18) test) three_rates (AllPass-from_list_all (λ rate. nat_le rate (10 ^ 18)) three_rates refl)

-- the parts of a region with so many units, zones and features
pub record IsRegion (units zones features : ℕ) (parts : Parts) : Type 0 where
  pub few_units : units ≤ 100000
  pub few_features : features ≤ 10000
  pub three : zones ≡ 3
  pub unit_ids : parts.unit_ids ≡ list_below units (λ place. place)
  pub zone_ids : parts.zone_ids ≡ list_below 3 (λ place. place)
  pub feature_ids : parts.feature_ids ≡ list_below features (λ place. place)
  pub names : length parts.names ≡ features
  pub available : parts.available ≡ 0
  pub allowed : parts.allowed ≡ replicate units 7
  pub costs : length parts.costs ≡ units * 3
  pub cheap : All (λ cost. cost ≤ 10 ^ 12) parts.costs
  pub rates : parts.rates ≡ three_rates
  pub edges : AreRows 1000000 units units parts.edges
  pub apart : list_all (λ (edge : ℕ × ℕ × ℕ). nat_lt edge.0 edge.1) parts.edges ≡ true
  pub outer : parts.outer ≡ replicate units 0
  pub targets : AreTargets features parts.targets
  pub amounts : AreRows 5000000 units features parts.amounts
  pub fractions : length parts.fractions ≡ 3 * features
  pub parts_of_one : All (λ fraction. fraction ≤ 1000000) parts.fractions

greatest_rate-is : (parts : Parts) → parts.rates ≡ three_rates → greatest_rate parts ≡ 500000
unfolding greatest_rate
greatest_rate-is parts e = ap (λ (rates : List ℕ). greatest_below (length rates) (slice_index rates)) e

small_length : (parts : Parts) (len : ℕ) → parts.rates ≡ three_rates → len ≤ 10 ^ 9 → IsLength parts len
small_length parts len e h =
    let term : len * greatest_rate parts ≡ len * 500000 = ap (λ rate. len * rate) (greatest_rate-is parts e) in
    record { small = omega arith; term = round-le (len * greatest_rate parts) 1000000 (10 ^ 18) (omega arith) (omega arith) }

amount_of-le : (m : ℕ) (rows : List (ℕ × ℕ × ℕ)) (unit feature : ℕ) → All (λ row. row.2 ≤ m) rows → amount_of rows unit feature ≤ m
amount_of-le m [] unit feature all = omega arith
amount_of-le m (row ∷ rows) unit feature all =
    let rest : amount_of rows unit feature ≤ m = amount_of-le m rows unit feature (All-tail (λ (r : ℕ × ℕ × ℕ). r.2 ≤ m) row rows all) in
    let here : row.2 ≤ m = All-head (λ (r : ℕ × ℕ × ℕ). r.2 ≤ m) row rows all in
    elim (row.0 == unit && row.1 == feature) as (λ b. cond b row.2 (amount_of rows unit feature) ≤ m) [ true ↦ here | false ↦ rest ]

total_of-le : (rows : List (ℕ × ℕ × ℕ)) (feature : ℕ) → All (λ row. row.2 ≤ 10 ^ 9) rows → length rows ≤ 5000000 → total_of rows feature ≤ 10 ^ 18
unfolding total_of holders_of
total_of-le rows feature all few =
    let holders : All (λ (holder : ℕ × ℕ). holder.1 ≤ 10 ^ 9) (values_at feature (map holder_of rows)) = values_at-All (λ (holder : ℕ × ℕ). holder.1 ≤ 10 ^ 9) feature (map holder_of rows) (All-map (λ (entry : ℕ × (ℕ × ℕ)). entry.1.1 ≤ 10 ^ 9) holder_of rows all) in
    omega (arith, sum_by-le (λ (holder : ℕ × ℕ). holder.1) (10 ^ 9) (values_at feature (map holder_of rows)) holders, length-values_at feature (map holder_of rows), length-map rows holder_of)

gain-le : (units zones features : ℕ) (parts : Parts) (row unit zone : ℕ) → IsRegion units zones features parts → row < features → gain_of parts row unit zone ≤ 10 ^ 9
unfolding amount_for
gain-le units zones features parts row unit zone is h =
    let amount : amount_for parts row unit ≤ 10 ^ 9 = amount_of-le (10 ^ 9) parts.amounts unit (target_at parts row).feature is.amounts.small in
    let fraction : fraction_at parts zone (target_at parts row).feature ≤ 1000000 = get_or-le 1000000 parts.fractions (zone * feature_count parts + (target_at parts row).feature) is.parts_of_one in
    let product : amount_for parts row unit * fraction_at parts zone (target_at parts row).feature ≤ amount_for parts row unit * 1000000 = mul-le-mul_left (amount_for parts row unit) fraction in
    omega (
      arith,
      gain_of-is parts row unit zone,
      gain_from-overall parts row (amount_for parts row unit) zone (target_at parts row) refl (is.targets.each row h).overall.everywhere,
      round-le (amount_for parts row unit * fraction_at parts zone (target_at parts row).feature) 1000000 (10 ^ 9) (omega arith) (omega arith),
    )

region-small : (parts : Parts) → IsRegion (unit_count parts) (zone_count parts) (feature_count parts) parts → IsSmall parts
region-small parts is = record { units = is.few_units; zones = omega (arith, is.three); features = is.few_features; rows = omega (arith, is.targets.whole, is.few_features); edges = is.edges.few; amounts = is.amounts.few }

seven : (zones set : ℕ) → zones ≡ 3 → set ≡ 7 → IsZoneSet zones set
seven zones set e f = record { some_zone = omega arith; in_range = subst (λ n. set < 2 ^ n) (sym e) (omega arith) }

region-shape : (parts : Parts) → IsRegion (unit_count parts) (zone_count parts) (feature_count parts) parts → IsInShape parts
region-shape parts is =
    let rate : (k l : ℕ) → rate_at parts k l ≡ get_or three_rates (k * 3 + l) 0 = λ k l. ap (λ (rates : List ℕ). get_or rates (k * zone_count parts + l) 0) is.rates ∙ ap (λ n. get_or three_rates (k * n + l) 0) is.three in
    record {
      unit_ids = subst AreDistinct (sym is.unit_ids) (places-distinct (unit_count parts));
      zone_ids = subst AreDistinct (sym is.zone_ids) (places-distinct 3);
      feature_ids = subst AreDistinct (sym is.feature_ids) (places-distinct (feature_count parts));
      names = is.names;
      available = omega (arith, is.available, is.three);
      allowed = ap length is.allowed ∙ length-replicate (unit_count parts) 7;
      zone_sets = λ unit h. seven (zone_count parts) (slice_index parts.allowed unit) is.three (ap (λ (sets : List ℕ). get_or sets unit 0) is.allowed ∙ get_or-replicate (unit_count parts) unit 7 0 h);
      costs = is.costs ∙ ap (λ n. unit_count parts * n) (sym is.three);
      rates = ap length is.rates ∙ ap (λ n. n * n) (sym is.three);
      even_rates = λ k l h i. rate k l ∙ three_rates-even k l (omega (arith, is.three)) (omega (arith, is.three)) ∙ sym (rate l k);
      pairs = λ k d h. record { first = ltb-true (get_or parts.edges k d).0 (get_or parts.edges k d).1 (AllPass-from_list_all (λ (edge : ℕ × ℕ × ℕ). nat_lt edge.0 edge.1) parts.edges is.apart k d h); second = is.edges.second k d h };
      pairs_in_order = is.edges.order;
      outer = ap length is.outer ∙ length-replicate (unit_count parts) 0;
      enough_rows = omega (arith, is.targets.whole);
      overall_rows = λ row h. (is.targets.each row h).overall;
      zone_rows = λ row h i. absurd (omega (arith, is.targets.whole));
      amounts = λ k d h. record { unit = is.amounts.first k d h; feature = is.amounts.second k d h; positive = is.amounts.positive k d h };
      amounts_in_order = is.amounts.order;
      fractions = is.fractions ∙ ap (λ n. n * feature_count parts) (sym is.three);
    }

region-limits : (parts : Parts) → IsRegion (unit_count parts) (zone_count parts) (feature_count parts) parts → IsWithinLimits parts
region-limits parts is = record {
  cost = omega (arith, is.few_units, sum_below-le (unit_count parts) (10 ^ 12) (λ unit. greatest_below (zone_count parts) (cost_at parts unit)) (λ unit h. greatest_below-le (zone_count parts) (10 ^ 12) (cost_at parts unit) (λ zone g. get_or-le (10 ^ 12) parts.costs (unit * zone_count parts + zone) is.cheap)));
  rate = subst (All (λ rate. rate ≤ 10 ^ 18)) (sym is.rates) three_rates-le;
  pairs = λ k d h. small_length parts (get_or parts.edges k d).2 is.rates (is.edges.small k d h);
  outer = subst (All (IsLength parts)) (sym is.outer) (All-replicate (IsLength parts) (unit_count parts) 0 (small_length parts 0 is.rates (omega arith)));
  amount = λ feature h. total_of-le parts.amounts feature is.amounts.small is.amounts.few;
  gain = λ row h. omega (arith, is.few_units, sum_below-le (unit_count parts) (10 ^ 9) (λ unit. greatest_below (zone_count parts) (gain_of parts row unit)) (λ unit g. greatest_below-le (zone_count parts) (10 ^ 9) (gain_of parts row unit) (λ zone i. gain-le (unit_count parts) (zone_count parts) (feature_count parts) parts row unit zone is (omega (arith, is.targets.whole)))));
  level = λ row h. let low : (target_at parts row).level ≤ 10 ^ 12 = (is.targets.each row (omega (arith, is.targets.whole))).low in omega arith;
  weight = λ row h. let light : (target_at parts row).weight ≤ 10 ^ 12 = (is.targets.each row (omega (arith, is.targets.whole))).light in omega arith;
}

region-valid : (parts : Parts) → IsRegion (unit_count parts) (zone_count parts) (feature_count parts) parts → IsValid parts
region-valid parts is = record { small = region-small parts is; shape = region-shape parts is; limits = region-limits parts is }

-- so many units, zones and features
pub counted-valid : (units features : ℕ) (parts : Parts) → IsRegion units 3 features parts → IsValid parts
counted-valid units features parts is =
    let of_units : unit_count parts ≡ units = ap length is.unit_ids ∙ length-list_below units (λ (place : ℕ). place) in
    let of_zones : zone_count parts ≡ 3 = ap length is.zone_ids ∙ length-list_below 3 (λ (place : ℕ). place) in
    let of_features : feature_count parts ≡ features = ap length is.feature_ids ∙ length-list_below features (λ (place : ℕ). place) in
    region-valid parts (subst (λ n. IsRegion n (zone_count parts) (feature_count parts) parts) (sym of_units) (subst (λ n. IsRegion units n (feature_count parts) parts) (sym of_zones) (subst (λ n. IsRegion units 3 n parts) (sym of_features) is)))
