-- What target rows hold at most, and where it is above the limit.
use Rattle.std.proofs.Common.{◌≡◌, ℕ, zero, suc, ◌+◌, ◌*◌, ◌^◌, ◌<◌, ◌≤◌, max, Bool, true, false, cond, List, [], ◌++◌, length, map, get_or, take, inl, inr, refl, sym, ap, subst, ◌∙◌, arith, ◌==◌}
use Rattle.std.specs.Prelude.{slice_index}
use Rattle.std.specs.List.{All, AllPairs, list_any, sum_by}
use Rattle.std.proofs.lemmas.Bool.{cases_lt, le-ltb, lt-ltb, or_from, or_left}
use Rattle.std.proofs.lemmas.List.Elements.{All-from_get_or, All-map, All-weaker}
use Rattle.std.proofs.lemmas.List.Folds.{list_any-append, list_any_at, list_any_none}
use Rattle.std.proofs.lemmas.List.Sums.{get_or-le-sum_by, sum_by_more}
use Rattle.std.proofs.Math.Nat.{mul-le-mul_left, mul-zero, zero-mul}
use Rattle.mz_num.specs.Round.{round}
use Rattle.mz_num.proofs.RoundLaws.{round-le, round-mono, round-multiple}
use Rattle.mz_model.specs.Amounts.{amount_of, holders_of, total_of}
use Rattle.mz_num.specs.Places.{greatest_below, list_below, sum_below}
use Rattle.mz_model.proofs.AmountLaws.{sum_by-holders_of}
use Rattle.mz_num.proofs.PlaceLaws.{get_or-list_below, greatest_below-le, length-list_below, sum_below-mono, sum_below-same}
use Rattle.mz_rows.proofs.PairLemmas.{pair-below}
use Rattle.mz_num.specs.Order.{IsBefore}
use Rattle.mz_targets.specs.Amounts.{IsAmount}
use Rattle.mz_targets.specs.declared.zone_targets.ZoneTarget.{ZoneTarget}
use Rattle.mz_targets.specs.ZoneTargets.{IsZoneTarget}
use Rattle.mz_project.specs.declared.limits.amounts.AmountsByFeature.{AmountsByFeature}
use Rattle.mz_project.specs.declared.region.Region.{Region}
use Rattle.mz_project.specs.Region.{FitsRegion}
use Rattle.mz_project.specs.AmountsByFeature.{amounts_by_feature}
use Rattle.mz_project.specs.Limits.{gains_are_above, is_above, totals_are_above}
use Rattle.mz_project.specs.Gains.{greatest_gain}
use Rattle.mz_project.specs.TargetRows.{overall_row, target_rows_of, zone_row}
use Rattle.mz_project.proofs.AmountLemmas.{few-holders, holders-at, sum_of}
use Rattle.mz_project.proofs.LevelLemmas.{total-small}

-- the parts of amounts
abbrev pub parts_sum : ℕ → List (ℕ × ℕ) → ℕ
parts_sum part holders = sum_by (λ (holder : ℕ × ℕ). round (holder.1 * part) (10 ^ 6)) holders

abbrev pub part_in : List ℕ → ℕ → ℕ → ℕ → ℕ
part_in fractions zones features feature = greatest_below zones (λ zone. slice_index fractions (zone * features + feature))

-- a part of an amount
pub part-le : (amount part : ℕ) → amount ≤ 10 ^ 18 → part ≤ 10 ^ 18 → round (amount * part) 1000000 ≤ 10 ^ 30
part-le amount part small few =
    let product : amount * part ≤ amount * 10 ^ 18 = mul-le-mul_left amount few in
    round-le (amount * part) 1000000 (10 ^ 30) (omega arith) (omega (arith, product, small))

pub one-part : (holders : List (ℕ × ℕ)) (k part a b made : ℕ) → All (λ (holder : ℕ × ℕ). holder.1 ≤ 10 ^ 18) holders → part ≤ 10 ^ 18 → k < length holders → a ≡ (get_or holders k (0, 0)).1 → b ≡ part → made ≡ round (a * b) 1000000 → made ≤ 10 ^ 30
one-part holders k part a b made small few within first second is =
    subst (λ n. n ≤ 10 ^ 30) (sym is) (part-le a b (subst (λ n. n ≤ 10 ^ 18) (sym first) (small k (0, 0) within)) (subst (λ n. n ≤ 10 ^ 18) (sym second) few))

pub parts-more : (holders : List (ℕ × ℕ)) (k part a b made gained : ℕ) → k < length holders → a ≡ (get_or holders k (0, 0)).1 → b ≡ part → made ≡ round (a * b) 1000000 → gained ≡ parts_sum part (take k holders) → gained + made ≡ parts_sum part (take (k + 1) holders)
parts-more holders k part a b made gained within first second is so_far =
    ap (λ n. n + made) so_far
    ∙ ap (λ n. parts_sum part (take k holders) + n) (is ∙ ap (λ n. round (n * b) 1000000) first ∙ ap (λ n. round ((get_or holders k (0, 0)).1 * n) 1000000) second)
    ∙ sym (sum_by_more (λ (holder : ℕ × ℕ). round (holder.1 * part) (10 ^ 6)) holders k (0, 0) within)

-- the greatest part is that of the greatest fraction
no-part : round 0 1000000 ≡ 0
no-part = round-multiple 0 1000000 (omega arith)

none-of : (part : ℕ) → round (0 * part) 1000000 ≡ 0
none-of part = ap (λ n. round n 1000000) (zero-mul part) ∙ no-part

part-mono : (amount a b : ℕ) → a ≤ b → round (amount * a) 1000000 ≤ round (amount * b) 1000000
part-mono amount a b less = round-mono (amount * a) (amount * b) 1000000 (omega arith) (mul-le-mul_left amount less)

part-max : (amount a b : ℕ) → max (round (amount * a) 1000000) (round (amount * b) 1000000) ≡ round (amount * max a b) 1000000
part-max amount a b =
    elim (cases_lt a b) [
      | inl less ↦ (
          let greatest : max a b ≡ b = omega (arith, less) in
          let rises : round (amount * a) 1000000 ≤ round (amount * b) 1000000 = part-mono amount a b (omega (arith, less)) in
          let last : max (round (amount * a) 1000000) (round (amount * b) 1000000) ≡ round (amount * b) 1000000 = omega (arith, rises) in
          last ∙ ap (λ n. round (amount * n) 1000000) (sym greatest))
      | inr more ↦ (
          let greatest : max a b ≡ a = omega (arith, more) in
          let falls : round (amount * b) 1000000 ≤ round (amount * a) 1000000 = part-mono amount b a more in
          let first : max (round (amount * a) 1000000) (round (amount * b) 1000000) ≡ round (amount * a) 1000000 = omega (arith, falls) in
          first ∙ ap (λ n. round (amount * n) 1000000) (sym greatest))
    ]

greatest-part : (n amount : ℕ) (f : ℕ → ℕ) → greatest_below n (λ k. round (amount * f k) 1000000) ≡ round (amount * greatest_below n f) 1000000
greatest-part zero amount f = sym (ap (λ n. round n 1000000) (mul-zero amount) ∙ no-part)
greatest-part (suc n) amount f = ap (λ m. max m (round (amount * f n) 1000000)) (greatest-part n amount f) ∙ part-max amount (greatest_below n f) (f n)

-- what an overall row holds at most, by the units that hold its feature
parts-of-holders : (amounts : List (ℕ × ℕ × ℕ)) (fractions : List ℕ) (units zones features feature : ℕ) → AllPairs IsBefore amounts → All (λ (row : ℕ × ℕ × ℕ). row.0 < units) amounts
    → sum_below units (λ unit. greatest_below zones (λ zone. round (amount_of amounts unit feature * slice_index fractions (zone * features + feature)) 1000000)) ≡ parts_sum (part_in fractions zones features feature) (holders_of amounts feature)
parts-of-holders amounts fractions units zones features feature order inside =
    sum_below-same units (λ unit. greatest_below zones (λ zone. round (amount_of amounts unit feature * slice_index fractions (zone * features + feature)) 1000000)) (λ unit. round (amount_of amounts unit feature * part_in fractions zones features feature) 1000000)
    (λ unit below. greatest-part zones (amount_of amounts unit feature) (λ zone. slice_index fractions (zone * features + feature)))
    ∙ sym (sum_by-holders_of amounts feature units (λ unit amount. round (amount * part_in fractions zones features feature) 1000000) (λ unit. none-of (part_in fractions zones features feature)) order inside)

-- what the row of a zone holds at most
whole-or-none : (own amount zone : ℕ) → cond (zone == own) amount 0 ≤ amount
whole-or-none own amount zone = elim (zone == own) as (λ b. cond b amount 0 ≤ amount) [ true ↦ omega arith | false ↦ omega arith ]

zone-in-total : (amounts : List (ℕ × ℕ × ℕ)) (units zones own feature : ℕ) → AllPairs IsBefore amounts → All (λ (row : ℕ × ℕ × ℕ). row.0 < units) amounts
    → sum_below units (λ unit. greatest_below zones (λ zone. cond (zone == own) (amount_of amounts unit feature) 0)) ≤ total_of amounts feature
unfolding total_of
zone-in-total amounts units zones own feature order inside =
    subst (λ n. sum_below units (λ unit. greatest_below zones (λ zone. cond (zone == own) (amount_of amounts unit feature) 0)) ≤ n)
    (sym (sum_by-holders_of amounts feature units (λ unit amount. amount) (λ unit. refl) order inside))
    (sum_below-mono units (λ unit. greatest_below zones (λ zone. cond (zone == own) (amount_of amounts unit feature) 0)) (λ unit. amount_of amounts unit feature)
    (λ unit below. greatest_below-le zones (amount_of amounts unit feature) (λ zone. cond (zone == own) (amount_of amounts unit feature) 0) (λ zone within. whole-or-none own (amount_of amounts unit feature) zone)))

-- a test of the first rows and of the others
some_first : {X Y : Type 0} (test : X → Bool) (first : ℕ → X) (second : Y → X) (n k : ℕ) (ys : List Y) → k < n → test (first k) ≡ true → list_any test (list_below n first ++ map second ys) ≡ true
some_first test first second n k ys within holds =
    list_any-append test (list_below n first) (map second ys)
    ∙ or_left (list_any test (list_below n first)) (list_any test (map second ys))
    (list_any_at test (list_below n first) k (first k) (subst (λ m. k < m) (sym (length-list_below n first)) within) (ap test (get_or-list_below n k first (first k) within) ∙ holds))

none_first : {X : Type 0} (test : X → Bool) (first : ℕ → X) (n : ℕ) → ((k : ℕ) → k < n → test (first k) ≡ false) → list_any test (list_below n first) ≡ false
none_first test first n fails =
    list_any_none test (list_below n first)
    (All-from_get_or (λ x. test x ≡ false) (list_below n first) (first 0)
    (λ k within. let below : k < n = subst (λ m. k < m) (length-list_below n first) within in ap test (get_or-list_below n k first (first 0) below) ∙ fails k below))

neither : {X Y : Type 0} (test : X → Bool) (first : ℕ → X) (second : Y → X) (n : ℕ) (ys : List Y) → ((k : ℕ) → k < n → test (first k) ≡ false) → All (λ y. test (second y) ≡ false) ys → list_any test (list_below n first ++ map second ys) ≡ false
neither test first second n ys fails others =
    list_any-append test (list_below n first) (map second ys)
    ∙ or_from (list_any test (list_below n first)) (list_any test (map second ys)) (none_first test first n fails) (list_any_none test (map second ys) (All-map (λ x. test x ≡ false) second ys others))

-- the rows of a region
units-known : (region : Region) → FitsRegion region → All (λ (row : ℕ × ℕ × ℕ). row.0 < length region.area.units.ids) region.targets.amounts
units-known region fit =
    All-weaker (IsAmount (length region.area.units.ids) (length region.targets.features.ids) (5000000 * 10 ^ 18)) (λ (row : ℕ × ℕ × ℕ). row.0 < length region.area.units.ids) (λ row is. is.unit) region.targets.amounts fit.targets.amounts.each

overall-gain : (region : Region) (feature : ℕ) → FitsRegion region
    → greatest_gain region (overall_row region feature) ≡ parts_sum (part_in region.targets.fractions (length region.area.zones.ids) (length region.targets.features.ids) feature) (holders_of region.targets.amounts feature)
overall-gain region feature fit =
    parts-of-holders region.targets.amounts region.targets.fractions (length region.area.units.ids) (length region.area.zones.ids) (length region.targets.features.ids) feature fit.targets.amounts.in_order (units-known region fit)

zone-gain : (region : Region) (target : ZoneTarget) → FitsRegion region → totals_are_above region.targets ≡ false → target.feature < length region.targets.features.ids → is_above (greatest_gain region (zone_row region target)) ≡ false
zone-gain region target fit small known =
    let held : greatest_gain region (zone_row region target) ≤ total_of region.targets.amounts target.feature
    = zone-in-total region.targets.amounts (length region.area.units.ids) (length region.area.zones.ids) target.zone target.feature fit.targets.amounts.in_order (units-known region fit) in
    le-ltb (10 ^ 18) (greatest_gain region (zone_row region target)) (omega (arith, held, total-small region.targets target.feature small known))

pub gain-above : (region : Region) (feature : ℕ) → feature < length region.targets.features.ids → 10 ^ 18 < greatest_gain region (overall_row region feature) → gains_are_above region ≡ true
unfolding gains_are_above target_rows_of
gain-above region feature known above =
    some_first (λ row. is_above (greatest_gain region row)) (overall_row region) (zone_row region) (length region.targets.features.ids) feature region.targets.zone_targets known (lt-ltb (10 ^ 18) (greatest_gain region (overall_row region feature)) above)

pub gains-within : (region : Region) → FitsRegion region → totals_are_above region.targets ≡ false → ((k : ℕ) → k < length region.targets.features.ids → greatest_gain region (overall_row region k) ≤ 10 ^ 18) → gains_are_above region ≡ false
unfolding gains_are_above target_rows_of
gains-within region fit small within =
    neither (λ row. is_above (greatest_gain region row)) (overall_row region) (zone_row region) (length region.targets.features.ids) region.targets.zone_targets
    (λ k known. le-ltb (10 ^ 18) (greatest_gain region (overall_row region k)) (within k known))
    (All-weaker (IsZoneTarget (length region.area.zones.ids) (length region.targets.features.ids)) (λ target. is_above (greatest_gain region (zone_row region target)) ≡ false) (λ target is. zone-gain region target fit small is.feature_known) region.targets.zone_targets fit.targets.zone_targets.each)

-- the gain that a step of the loop works out
pub gain-is : (region : Region) (by_feature : AmountsByFeature) (fractions : List ℕ) (holders : List (ℕ × ℕ)) (features zones feature part gained : ℕ) → FitsRegion region → by_feature ≡ amounts_by_feature region.targets → fractions ≡ region.targets.fractions
    → features ≡ length region.targets.features.ids → zones ≡ length region.area.zones.ids → feature < features → part ≡ part_in fractions zones features feature → holders ≡ get_or by_feature.holders feature [] → gained ≡ parts_sum part holders
    → gained ≡ greatest_gain region (overall_row region feature)
gain-is region by_feature fractions holders features zones feature part gained fit same fractions_are features_are zones_are known part_is holders_are is =
    let known_feature : feature < length region.targets.features.ids = omega (arith, known, features_are) in
    let of_feature = holders_are ∙ holders-at region.targets by_feature.holders feature [] (ap (λ h. h.holders) same) known_feature in
    let of_zones = part_is ∙ ap (λ fs. part_in fs zones features feature) fractions_are ∙ ap (λ n. part_in region.targets.fractions n features feature) zones_are ∙ ap (λ n. part_in region.targets.fractions (length region.area.zones.ids) n feature) features_are in
    is ∙ ap (λ n. parts_sum n holders) of_zones ∙ ap (parts_sum (part_in region.targets.fractions (length region.area.zones.ids) (length region.targets.features.ids) feature)) of_feature ∙ sym (overall-gain region feature fit)

-- what the steps need
pub fractions-whole : (region : Region) (fractions : List ℕ) (features zones : ℕ) → FitsRegion region → fractions ≡ region.targets.fractions → features ≡ length region.targets.features.ids → zones ≡ length region.area.zones.ids → length fractions ≡ zones * features
fractions-whole region fractions features zones fit same features_are zones_are =
    ap length same ∙ fit.targets.fractions.all_pairs ∙ ap (λ n. n * length region.targets.features.ids) (sym zones_are) ∙ ap (λ n. zones * n) (sym features_are)

pub part-small : (region : Region) (fractions : List ℕ) (features zones feature part : ℕ) → FitsRegion region → fractions ≡ region.targets.fractions → features ≡ length region.targets.features.ids → zones ≡ length region.area.zones.ids → feature < features
    → part ≡ part_in fractions zones features feature → part ≤ 10 ^ 18
part-small region fractions features zones feature part fit same features_are zones_are known is =
    let whole : length fractions ≡ zones * features = fractions-whole region fractions features zones fit same features_are zones_are in
    let small : All (λ number. number ≤ 10 ^ 18) fractions = subst (All (λ number. number ≤ 10 ^ 18)) (sym same) fit.targets.fractions.small in
    subst (λ n. n ≤ 10 ^ 18) (sym is)
    (greatest_below-le zones (10 ^ 18) (λ zone. slice_index fractions (zone * features + feature)) (λ zone below. small (zone * features + feature) 0 (subst (λ n. zone * features + feature < n) (sym whole) (pair-below zone zones features feature below known))))

pub amounts-small : (region : Region) (by_feature : AmountsByFeature) (holders : List (ℕ × ℕ)) (features feature : ℕ) → by_feature ≡ amounts_by_feature region.targets → totals_are_above region.targets ≡ false → features ≡ length region.targets.features.ids → feature < features
    → holders ≡ get_or by_feature.holders feature [] → All (λ (holder : ℕ × ℕ). holder.1 ≤ 10 ^ 18) holders
unfolding total_of
amounts-small region by_feature holders features feature same small features_are known are k d within =
    let known_feature : feature < length region.targets.features.ids = omega (arith, known, features_are) in
    let of_feature = are ∙ holders-at region.targets by_feature.holders feature [] (ap (λ h. h.holders) same) known_feature in
    let total : sum_of holders ≤ 10 ^ 18 = subst (λ hs. sum_of hs ≤ 10 ^ 18) (sym of_feature) (total-small region.targets feature small known_feature) in
    omega (arith, total, get_or-le-sum_by (λ (holder : ℕ × ℕ). holder.1) holders k d within)

pub holders-few : (region : Region) (by_feature : AmountsByFeature) (holders : List (ℕ × ℕ)) (features feature : ℕ) → FitsRegion region → by_feature ≡ amounts_by_feature region.targets → features ≡ length region.targets.features.ids → feature < features
    → holders ≡ get_or by_feature.holders feature [] → length holders ≤ 5000000
holders-few region by_feature holders features feature fit same features_are known are =
    let known_feature : feature < length region.targets.features.ids = omega (arith, known, features_are) in
    let of_feature : length holders ≡ length (holders_of region.targets.amounts feature) = ap length (are ∙ holders-at region.targets by_feature.holders feature [] (ap (λ h. h.holders) same) known_feature) in
    omega (arith, of_feature, few-holders region.targets.amounts feature, fit.targets.amounts.few)

pub gains-more : (region : Region) (feature : ℕ) → ((k : ℕ) → k < feature → greatest_gain region (overall_row region k) ≤ 10 ^ 18) → greatest_gain region (overall_row region feature) ≤ 10 ^ 18
    → (k : ℕ) → k < feature + 1 → greatest_gain region (overall_row region k) ≤ 10 ^ 18
gains-more region feature so_far here k below =
    elim (cases_lt k feature) [
      | inl before ↦ so_far k before
      | inr last ↦ (let same : feature ≡ k = omega (arith, below, last) in subst (λ n. greatest_gain region (overall_row region n) ≤ 10 ^ 18) same here)
    ]
