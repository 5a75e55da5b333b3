-- The parts that the files give are a problem.
use Rattle.std.proofs.Common.{◌≡◌, ℕ, ◌+◌, ◌-◌, ◌*◌, ◌/◌, ◌%◌, ◌^◌, ◌<◌, ◌≤◌, false, List, [], ◌∷◌, ◌++◌, length, get_or, map, take, None, Some, add-one, refl, sym, ap, subst, ◌∙◌, arith}
use Rattle.std.specs.Prelude.{slice_index, slice_get}
use Rattle.std.specs.List.{All, list_any, range_with_len}
use Rattle.std.proofs.lemmas.List.{get_or-map, length-map, map-append}
use Rattle.std.proofs.lemmas.List.Elements.{All-weaker}
use Rattle.std.proofs.lemmas.Option.{slice_get_within, get_or_from_slice_get}
use Rattle.std.proofs.lemmas.Simd.{map-map}
use Rattle.std.proofs.Math.Seq.{take-suc}
use Rattle.mz_params.specs.declared.params.Params.{Params}
use Rattle.mz_bounds.specs.Rates.{rate}
use Rattle.mz_model.specs.declared.parts.Target.{Target}
use Rattle.mz_model.specs.Boundary.{IsLength, greatest_rate}
use Rattle.mz_model.specs.Parts.{no_target, rate_at, target_at}
use Rattle.mz_num.specs.Places.{sum_below, greatest_below, list_below}
use Rattle.mz_model.specs.Targets.{amount_for, gain_from, gain_of}
use Rattle.mz_num.specs.ZoneSet.{IsZoneSet}
use Rattle.mz_model.specs.Valid.{IsAmount, IsOverallRow, IsValid, IsSmall, IsInShape, IsWithinLimits, IsZoneRow}
use Rattle.mz_num.proofs.PlaceLaws.{length-list_below, get_or-list_below, sum_below-mono, greatest_below-le, at-le-greatest_below}
use Rattle.mz_rows.proofs.PairLemmas.{pair-below, pair-first, pair-second}
use Rattle.mz_targets.specs.Amounts as targets
use Rattle.mz_targets.specs.declared.zone_targets.ZoneTarget.{ZoneTarget}
use Rattle.mz_project.specs.declared.area.Area.{Area}
use Rattle.mz_project.specs.declared.region.Region.{Region}
use Rattle.mz_project.specs.Region.{FitsRegion}
use Rattle.mz_project.specs.Limits.{costs_are_above, gains_are_above, heavy_row, is_above, lengths_are_above}
use Rattle.mz_project.specs.Limits.{levels_are_above, rates_are_above, terms_are_above}
use Rattle.mz_project.specs.Gains.{greatest_gain}
use Rattle.mz_project.specs.Rates.{greatest_term}
use Rattle.mz_project.specs.Numbers.{AreCostsWithin, AreTargetsWithin}
use Rattle.mz_project.specs.Levels.{levels_of, overall_level}
use Rattle.mz_project.specs.TargetRows.{overall_row, target_rows_of, zone_row}
use Rattle.mz_project.specs.Parts.{parts_of}
use Rattle.mz_project.specs.Rates.{rates_of}
use Rattle.mz_project.specs.Costs.{term_of, terms_of}
use Rattle.mz_project.proofs.BelowLemmas.{left_false, right_false}
use Rattle.mz_project.proofs.CostLemmas.{within_limit}
use Rattle.mz_project.proofs.LevelLemmas.{total-small}
use Rattle.mz_project.proofs.WeightLemmas.{back-at, front-at, length-rows}
use Rattle.mz_project.proofs.WithinLemmas.{all_within, none_found, none_passes}

-- one id more
pub ids-more : (ids list list' : List ℕ) (place id : ℕ) → list ≡ take place ids → slice_get ids place ≡ Some id → list' ≡ list ++ id ∷ [] → list' ≡ take (place + 1) ids
ids-more ids list list' place id so_far is more =
    more ∙ ap (λ xs. xs ++ id ∷ []) so_far ∙ ap (λ x. take place ids ++ x ∷ []) (sym (get_or_from_slice_get ids place id 0 is)) ∙ sym (take-suc ids place 0 (slice_get_within ids place id is)) ∙ ap (λ n. take n ids) (sym (add-one place))

-- terms
length-terms : (area : Area) → length (terms_of area) ≡ length area.units.ids * length area.zones.ids
unfolding terms_of
length-terms area = length-list_below (length area.units.ids * length area.zones.ids) (λ place. term_of area (place / length area.zones.ids) (place % length area.zones.ids))

term-is : (area : Area) (unit zone : ℕ) → unit < length area.units.ids → zone < length area.zones.ids → get_or (terms_of area) (unit * length area.zones.ids + zone) 0 ≡ term_of area unit zone
unfolding terms_of
term-is area unit zone below within =
    get_or-list_below (length area.units.ids * length area.zones.ids) (unit * length area.zones.ids + zone) (λ place. term_of area (place / length area.zones.ids) (place % length area.zones.ids)) 0 (pair-below unit (length area.units.ids) (length area.zones.ids) zone below within)
    ∙ ap (λ a. term_of area a ((unit * length area.zones.ids + zone) % length area.zones.ids)) (pair-first unit (length area.zones.ids) zone within)
    ∙ ap (term_of area unit) (pair-second unit (length area.zones.ids) zone within)

costs-within : (area : Area) → costs_are_above area ≡ false → sum_below (length area.units.ids) (λ unit. greatest_below (length area.zones.ids) (λ zone. get_or (terms_of area) (unit * length area.zones.ids + zone) 0)) ≤ 10 ^ 18
costs-within area within =
    let all = sum_below-mono (length area.units.ids) (λ unit. greatest_below (length area.zones.ids) (λ zone. get_or (terms_of area) (unit * length area.zones.ids + zone) 0)) (λ unit. greatest_below (length area.zones.ids) (term_of area unit))
    (λ unit below. greatest_below-le (length area.zones.ids) (greatest_below (length area.zones.ids) (term_of area unit)) (λ zone. get_or (terms_of area) (unit * length area.zones.ids + zone) 0)
    (λ zone in_range. subst (λ n. n ≤ greatest_below (length area.zones.ids) (term_of area unit)) (sym (term-is area unit zone below in_range)) (at-le-greatest_below (length area.zones.ids) zone (term_of area unit) in_range))) in
    let limit = within_limit area within in
    omega (arith, all, limit)

set-is : (zones : ℕ) (allowed : List ℕ) (unit : ℕ) → All (IsZoneSet zones) allowed → unit < length allowed → IsZoneSet zones (slice_index allowed unit)
set-is zones allowed unit sets within = record { some_zone = (sets unit 0 within).some_zone; in_range = (sets unit 0 within).in_range }

-- target rows
overall-at : (region : Region) (row : ℕ) → row < length region.targets.features.ids → get_or (target_rows_of region) row no_target ≡ overall_row region row
unfolding target_rows_of
overall-at region row within = front-at (length region.targets.features.ids) row (overall_row region) (zone_row region) region.targets.zone_targets no_target within

-- a zone target that stands for one past the last
no_zone_target : ZoneTarget
no_zone_target = record { zone = 0; feature = 0; value = 0; kind = 0 }

zone-at : (region : Region) (row : ℕ) → length region.targets.features.ids ≤ row → row < length (target_rows_of region)
    → get_or (target_rows_of region) row no_target ≡ zone_row region (get_or region.targets.zone_targets (row - length region.targets.features.ids) no_zone_target)
unfolding target_rows_of
zone-at region row above within =
    back-at (length region.targets.features.ids) row (overall_row region) (zone_row region) region.targets.zone_targets no_target no_zone_target above (let whole = length-rows region in omega (arith, above, within, whole))

overall-shape : (params : Params) (region : Region) (row : ℕ) → row < length region.targets.features.ids → IsOverallRow row (target_at (parts_of params region) row)
unfolding parts_of
overall-shape params region row within = subst (IsOverallRow row) (sym (overall-at region row within)) (record { own = refl; everywhere = refl })

zone-shape : (params : Params) (region : Region) (row : ℕ) → FitsRegion region → length region.targets.features.ids ≤ row → row < length (target_rows_of region)
    → IsZoneRow (length region.area.zones.ids) (length region.targets.features.ids) (target_at (parts_of params region) row)
unfolding parts_of
zone-shape params region row fit above within =
    let here : row - length region.targets.features.ids < length region.targets.zone_targets = (let whole = length-rows region in omega (arith, above, within, whole)) in
    let known = fit.targets.zone_targets.each (row - length region.targets.features.ids) no_zone_target here in
    subst (IsZoneRow (length region.area.zones.ids) (length region.targets.features.ids)) (sym (zone-at region row above within)) (record { feature = known.feature_known; zone = known.zone_known })

-- rates
rates-even : (params : Params) (region : Region) (k l : ℕ) → FitsRegion region → k < length region.area.zones.ids → l < length region.area.zones.ids → rate_at (parts_of params region) k l ≡ rate_at (parts_of params region) l k
unfolding parts_of
rates-even params region k l fit below within =
    let zones = length region.area.zones.ids in
    let inside : (i j : ℕ) → i < zones → j < zones → i * zones + j < length region.boundaries.costs = λ i j p q. subst (λ n. i * zones + j < n) (sym fit.boundaries.costs.all_pairs) (pair-below i zones zones j p q) in
    get_or-map (rate params.blm) region.boundaries.costs (k * zones + l) 0 0 (inside k l below within)
    ∙ ap (rate params.blm) (fit.boundaries.costs.even k l below within)
    ∙ sym (get_or-map (rate params.blm) region.boundaries.costs (l * zones + k) 0 0 (inside l k within below))

-- numbers of things, and their shape
parts-small : (params : Params) (region : Region) → FitsRegion region → IsSmall (parts_of params region)
unfolding parts_of
parts-small params region fit = record {
  units = fit.area.units.few;
  zones = fit.area.zones.few;
  features = fit.targets.features.few;
  rows = (let whole = length-rows region in let features = fit.targets.features.few in let zone_rows = fit.targets.zone_targets.few in omega (arith, whole, features, zone_rows));
  edges = fit.boundaries.bounds.few;
  amounts = fit.targets.amounts.few;
}

parts-shape : (params : Params) (region : Region) → FitsRegion region → IsInShape (parts_of params region)
unfolding parts_of
parts-shape params region fit = record {
  unit_ids = fit.area.units.distinct;
  zone_ids = fit.area.zones.distinct;
  feature_ids = fit.targets.features.distinct;
  names = fit.targets.features.all_named;
  available = fit.area.available;
  allowed = fit.allowed.all_units;
  zone_sets = λ unit within. set-is (length region.area.zones.ids) region.allowed unit fit.allowed.each (subst (λ n. unit < n) (sym fit.allowed.all_units) within);
  costs = length-terms region.area;
  rates = length-map region.boundaries.costs (rate params.blm) ∙ fit.boundaries.costs.all_pairs;
  even_rates = λ k l below within. rates-even params region k l fit below within;
  pairs = λ k d within. record { first = fit.boundaries.bounds.of_two k d within; second = fit.boundaries.bounds.in_range k d within };
  pairs_in_order = fit.boundaries.bounds.in_order;
  outer = fit.boundaries.bounds.all_units;
  enough_rows = (let whole = length-rows region in omega (arith, whole));
  overall_rows = λ row within. overall-shape params region row within;
  zone_rows = λ row above within. zone-shape params region row fit above within;
  amounts = All-weaker (targets.IsAmount (length region.area.units.ids) (length region.targets.features.ids) (5000000 * 10 ^ 18)) (IsAmount (length region.area.units.ids) (length region.targets.features.ids)) (λ row is. record { unit = is.unit; feature = is.feature; positive = is.positive }) region.targets.amounts fit.targets.amounts.each;
  amounts_in_order = fit.targets.amounts.in_order;
  fractions = fit.targets.fractions.all_pairs;
}

-- quantities
rates-within : (rates : List ℕ) → rates_are_above rates ≡ false → All (λ rate. rate ≤ 10 ^ 18) rates
unfolding rates_are_above
rates-within rates none = all_within (λ rate. rate) rates (none_passes is_above rates none)

edges-within : (region : Region) → lengths_are_above region.boundaries.bounds ≡ false → All (λ (edge : ℕ × ℕ × ℕ). edge.2 ≤ 10 ^ 18) region.boundaries.bounds.edges
unfolding lengths_are_above
edges-within region none =
    let bounds = region.boundaries.bounds in
    all_within (λ (edge : ℕ × ℕ × ℕ). edge.2) bounds.edges (none_passes (λ (edge : ℕ × ℕ × ℕ). is_above edge.2) bounds.edges (left_false (list_any (λ (edge : ℕ × ℕ × ℕ). is_above edge.2) bounds.edges) (list_any is_above bounds.outer) none))

outer-within : (region : Region) → lengths_are_above region.boundaries.bounds ≡ false → All (λ len. len ≤ 10 ^ 18) region.boundaries.bounds.outer
unfolding lengths_are_above
outer-within region none =
    let bounds = region.boundaries.bounds in
    all_within (λ len. len) bounds.outer (none_passes is_above bounds.outer (right_false (list_any (λ (edge : ℕ × ℕ × ℕ). is_above edge.2) bounds.edges) (list_any is_above bounds.outer) none))

edge_terms-within : (rates : List ℕ) (edges : List (ℕ × ℕ × ℕ)) (outer : List ℕ) → terms_are_above rates edges outer ≡ false → All (λ (edge : ℕ × ℕ × ℕ). greatest_term rates edge.2 ≤ 10 ^ 18) edges
unfolding terms_are_above
edge_terms-within rates edges outer none =
    all_within (λ (edge : ℕ × ℕ × ℕ). greatest_term rates edge.2) edges
    (none_passes (λ (edge : ℕ × ℕ × ℕ). is_above (greatest_term rates edge.2)) edges (left_false (list_any (λ (edge : ℕ × ℕ × ℕ). is_above (greatest_term rates edge.2)) edges) (list_any (λ len. is_above (greatest_term rates len)) outer) none))

outer_terms-within : (rates : List ℕ) (edges : List (ℕ × ℕ × ℕ)) (outer : List ℕ) → terms_are_above rates edges outer ≡ false → All (λ len. greatest_term rates len ≤ 10 ^ 18) outer
unfolding terms_are_above
outer_terms-within rates edges outer none =
    all_within (greatest_term rates) outer
    (none_passes (λ len. is_above (greatest_term rates len)) outer (right_false (list_any (λ (edge : ℕ × ℕ × ℕ). is_above (greatest_term rates edge.2)) edges) (list_any (λ len. is_above (greatest_term rates len)) outer) none))

length-is : (params : Params) (region : Region) (len : ℕ) → len ≤ 10 ^ 18 → greatest_term (rates_of params region) len ≤ 10 ^ 18 → IsLength (parts_of params region) len
unfolding parts_of greatest_rate
length-is params region len small term = record { small = small; term = term }

gains-within : (region : Region) → gains_are_above region ≡ false → All (λ row. greatest_gain region row ≤ 10 ^ 18) (target_rows_of region)
unfolding gains_are_above
gains-within region none = all_within (greatest_gain region) (target_rows_of region) (none_passes (λ row. is_above (greatest_gain region row)) (target_rows_of region) none)

gain-within : (params : Params) (region : Region) (row : ℕ) → gains_are_above region ≡ false → row < length (target_rows_of region)
    → sum_below (length region.area.units.ids) (λ unit. greatest_below (length region.area.zones.ids) (gain_of (parts_of params region) row unit)) ≤ 10 ^ 18
unfolding parts_of gain_of gain_from amount_for
gain-within params region row none within = gains-within region none row no_target within

levels-are : (region : Region) → levels_of region.targets ≡ map (λ (row : Target). row.level) (target_rows_of region)
unfolding levels_of target_rows_of
levels-are region =
    let features = length region.targets.features.ids in
    let level_of_row : Target → ℕ = λ row. row.level in
    sym (map-append level_of_row (list_below features (overall_row region)) (map (zone_row region) region.targets.zone_targets)
    ∙ ap (λ (levels : List ℕ). levels ++ map level_of_row (map (zone_row region) region.targets.zone_targets)) (map-map level_of_row (overall_row region) (range_with_len 0 features))
    ∙ ap (λ (levels : List ℕ). list_below features (overall_level region.targets) ++ levels) (map-map level_of_row (zone_row region) region.targets.zone_targets))

levels-within : (region : Region) → levels_are_above region.targets ≡ false → All (λ level. level ≤ 10 ^ 18) (levels_of region.targets)
unfolding levels_are_above
levels-within region none = all_within (λ level. level) (levels_of region.targets) (none_passes is_above (levels_of region.targets) none)

level-within : (region : Region) (row : ℕ) → levels_are_above region.targets ≡ false → row < length (target_rows_of region) → (get_or (target_rows_of region) row no_target).level ≤ 10 ^ 18
level-within region row none within =
    subst (λ n. n ≤ 10 ^ 18) (ap (λ levels. get_or levels row 0) (levels-are region) ∙ get_or-map (λ (r : Target). r.level) (target_rows_of region) row no_target 0 within)
    (levels-within region none row 0 (subst (λ n. row < n) (sym (ap length (levels-are region) ∙ length-map (target_rows_of region) (λ (r : Target). r.level))) within))

weight-within : (region : Region) (row : ℕ) → heavy_row region ≡ None → row < length (target_rows_of region) → (get_or (target_rows_of region) row no_target).weight ≤ 10 ^ 18
unfolding heavy_row
weight-within region row none within = all_within (λ (r : Target). r.weight) (target_rows_of region) (none_found (λ r. is_above r.weight) (target_rows_of region) none) row no_target within

parts-within : (params : Params) (region : Region) → AreCostsWithin params region → AreTargetsWithin region → IsWithinLimits (parts_of params region)
unfolding parts_of
parts-within params region are rows = record {
  cost = costs-within region.area are.costs;
  rate = rates-within (rates_of params region) are.rates;
  pairs = λ k d within. length-is params region (get_or region.boundaries.bounds.edges k d).2 (edges-within region are.lengths k d within) (edge_terms-within (rates_of params region) region.boundaries.bounds.edges region.boundaries.bounds.outer are.terms k d within);
  outer = λ k d within. length-is params region (get_or region.boundaries.bounds.outer k d) (outer-within region are.lengths k d within) (outer_terms-within (rates_of params region) region.boundaries.bounds.edges region.boundaries.bounds.outer are.terms k d within);
  amount = λ feature within. total-small region.targets feature rows.totals within;
  gain = λ row within. gain-within params region row rows.gains within;
  level = λ row within. level-within region row rows.levels within;
  weight = λ row within. weight-within region row rows.weights within;
}

pub parts-valid : (params : Params) (region : Region) → FitsRegion region → AreCostsWithin params region → AreTargetsWithin region → IsValid (parts_of params region)
parts-valid params region fit are rows = record { small = parts-small params region fit; shape = parts-shape params region fit; limits = parts-within params region are rows }
