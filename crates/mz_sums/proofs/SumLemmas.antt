-- Laws of the sums of plans.
use Rattle.std.proofs.Common.{◌≡◌, ℕ, ◌+◌, ◌*◌, ◌/◌, ◌%◌, ◌<◌, ◌≤◌, ◌==◌, Bool, true, false, cond, ◌&&◌, List, [], ◌∷◌, ◌++◌, length, get_or, set, refl, ap, sym, ◌∙◌, arith, inl, inr}
use Rattle.std.specs.Prelude.{nat_lt}
use Rattle.std.specs.List.{All, count_by}
use Rattle.std.proofs.Math.ListN.{replicate}
use Rattle.std.proofs.Math.Nat.{div-add-mod, mul_comm}
use Rattle.std.proofs.lemmas.Bool.{cases_eq, cases_lt, eq-eqb, ne_eqb, le-ltb, lt-ltb}
use Rattle.std.proofs.lemmas.List.{length-append}
use Rattle.std.proofs.lemmas.List.Elements.{All-from_get_or}
use Rattle.std.proofs.lemmas.List.Sums.{sum_by-append}
use Rattle.std.proofs.lemmas.Nat.{div-mul-add, mod-mul-add, div_below, mul-add-lt}
use Rattle.mz_num.specs.Limits.{most_runs}
use Rattle.mz_num.specs.Places.{list_below}
use Rattle.mz_num.proofs.PlaceLaws.{get_or-list_below, length-list_below, list_below-from, list_below-same, list_below-set, replicate-list_below}
use Rattle.mz_model.specs.declared.parts.Parts.{Parts}
use Rattle.mz_model.specs.Parts.{unit_count, zone_count}
use Rattle.mz_model.specs.Plans.{IsLegalPlan}
use Rattle.mz_model.specs.Valid.{IsValid}
use Rattle.mz_model.proofs.ZoneLaws.{is_allowed-in_range}
use Rattle.mz_sums.specs.Sums.{Sums, AreSums, gives, count_with, sums_of, with_plan}

-- a unit's zone has its place among the counts
pub place_inside : (unit zone units zones : ℕ) → unit < units → zone < zones → unit * zones + zone < units * zones
place_inside unit zone units zones h i = rw (mul_comm units zones) (mul-add-lt unit zones zone units h i)

-- a legal plan gives zones of the problem
pub legal_zones : (parts : Parts) (plan : List ℕ) (zones : ℕ) → IsValid parts → zones ≡ zone_count parts → IsLegalPlan parts plan → All (λ zone. zone < zones) plan
legal_zones parts plan zones valid same legal =
    All-from_get_or (λ zone. zone < zones) plan 0
    (λ k h. let unit : k < unit_count parts = omega (arith, legal.whole) in
    omega (arith, is_allowed-in_range parts k (get_or plan k 0) valid unit (legal.allowed k unit)))

-- no plan is added
pub none_added : (parts known : Parts) (counts : List ℕ) (n : ℕ) → known ≡ parts → counts ≡ replicate n 0 → n ≡ unit_count parts * zone_count parts
    → sums_of parts [] ≡ record { parts = known; added = 0; counts = counts }
none_added parts known counts n same zeros whole =
    let places : ℕ = unit_count parts * zone_count parts in
    let made : (sums_of parts []).counts ≡ counts =
    sym (zeros ∙ ap (λ m. replicate m 0) whole
    ∙ replicate-list_below places (λ place. count_by (gives (zone_count parts) place) []) 0 0 (λ k h. refl)) in
    λ k. record { parts = sym same k; added = 0; counts = made k }

-- how many of the plans give the unit the zone
pub count_of_plans : (parts : Parts) (added : ℕ) (counts : List ℕ) (now : Sums) (zones unit zone found d : ℕ) (plans : List (List ℕ))
    → now ≡ record { parts = parts; added = added; counts = counts } → zones ≡ zone_count parts → found ≡ get_or counts (unit * zones + zone) d
    → now ≡ sums_of now.parts plans → unit < unit_count now.parts → zone < zone_count now.parts
    → found ≡ count_by (λ (plan : List ℕ). get_or plan unit 0 == zone) plans
count_of_plans parts added counts now zones unit zone found d plans view same is are h i =
    let count : ℕ = zone_count now.parts in
    let place : ℕ = unit * count + zone in
    is
    ∙ ap (λ (s : Sums). get_or s.counts (unit * zones + zone) d) (sym view)
    ∙ ap (λ n. get_or now.counts (unit * n + zone) d) (same ∙ ap (λ (s : Sums). zone_count s.parts) (sym view))
    ∙ ap (λ (s : Sums). get_or s.counts place d) are
    ∙ get_or-list_below (unit_count now.parts * count) place (λ p. count_by (gives count p) plans) d (place_inside unit zone (unit_count now.parts) count h i)
    ∙ ap (λ u. count_by (λ (plan : List ℕ). get_or plan u 0 == place % count) plans) (div-mul-add unit count zone i)
    ∙ ap (λ z. count_by (λ (plan : List ℕ). get_or plan unit 0 == z) plans) (mod-mul-add unit count zone i)

count_by-push : {X : Type 0} (p : X → Bool) (xs : List X) (x : X) → count_by p (xs ++ x ∷ []) ≡ count_by p xs + cond (p x) 1 0
count_by-push p xs x = omega (arith, sum_by-append (λ y. cond (p y) 1 0) xs (x ∷ []))

-- one plan more
pub plan_added : (sums : Sums) (plans : List (List ℕ)) (plan : List ℕ) → sums ≡ sums_of sums.parts plans → with_plan sums plan ≡ sums_of sums.parts (plans ++ plan ∷ [])
plan_added sums plans plan are =
    let parts : Parts = sums.parts in
    let zones : ℕ = zone_count parts in
    let places : ℕ = unit_count parts * zones in
    let more : sums.added + 1 ≡ length (plans ++ plan ∷ []) = ap (λ (s : Sums). s.added + 1) are ∙ sym (length-append plans (plan ∷ [])) in
    let made : (with_plan sums plan).counts ≡ (sums_of parts (plans ++ plan ∷ [])).counts =
    list_below-same places
    (count_with zones plan sums.counts)
    (λ place. count_by (gives zones place) (plans ++ plan ∷ [])) 0
    (λ k h.
    ap (λ n. n + cond (gives zones k plan) 1 0)
    (ap (λ (s : Sums). get_or s.counts k 0) are ∙ get_or-list_below places k (λ p. count_by (gives zones p) plans) 0 h)
    ∙ sym (count_by-push (gives zones k) plans plan)) in
    λ k. record { parts = parts; added = more k; counts = made k }

-- the same of the fields that the type keeps
pub plans_more : (parts : Parts) (added : ℕ) (counts new : List ℕ) (units zones : ℕ) (now : Sums) (plans : List (List ℕ)) (plan : List ℕ)
    → now ≡ record { parts = parts; added = added; counts = counts } → units ≡ unit_count parts → zones ≡ zone_count parts
    → new ≡ list_below (units * zones) (count_with zones plan counts)
    → now ≡ sums_of now.parts plans → sums_of now.parts (plans ++ plan ∷ []) ≡ record { parts = parts; added = added + 1; counts = new }
plans_more parts added counts new units zones now plans plan view count same is are =
    let made : list_below (unit_count parts * zone_count parts) (count_with (zone_count parts) plan counts) ≡ new =
    sym (is
    ∙ ap (λ n. list_below (n * zones) (count_with zones plan counts)) count
    ∙ ap (λ n. list_below (unit_count parts * n) (count_with n plan counts)) same) in
    sym (plan_added now plans plan are) ∙ ap (λ (s : Sums). with_plan s plan) view ∙ (λ k. record { parts = parts; added = added + 1; counts = made k })

one_at_most : (b : Bool) → cond b 1 0 ≤ 1
one_at_most true = omega arith
one_at_most false = omega arith

-- what the type keeps stays so
pub kept_more : (parts : Parts) (added : ℕ) (counts new : List ℕ) (units zones : ℕ) (plan : List ℕ)
    → AreSums (record { parts = parts; added = added; counts = counts }) units zones → added < most_runs
    → new ≡ list_below (units * zones) (count_with zones plan counts)
    → AreSums (record { parts = parts; added = added + 1; counts = new }) units zones
kept_more parts added counts new units zones plan kept few is =
    let whole : length new ≡ units * zones = ap length is ∙ length-list_below (units * zones) (count_with zones plan counts) in
    let places : length new ≡ unit_count parts * zone_count parts =
    whole ∙ ap (λ n. n * zones) kept.units_are ∙ ap (λ n. unit_count parts * n) kept.zones_are in
    record {
      valid = kept.valid;
      units_are = kept.units_are;
      zones_are = kept.zones_are;
      places = places;
      most = All-from_get_or (λ count. count ≤ added + 1) new 0 (λ k h.
          let old : get_or counts k 0 ≤ added = kept.most k 0 (omega (arith, kept.places, places)) in
          let at : get_or new k 0 ≡ get_or counts k 0 + cond (gives zones k plan) 1 0 =
          ap (λ (xs : List ℕ). get_or xs k 0) is
          ∙ get_or-list_below (units * zones) k (count_with zones plan counts) 0 (omega arith) in
          omega (arith, one_at_most (gives zones k plan)));
      few = omega arith;
    }

-- a plan whose units before this one are counted

abbrev pub counted : List ℕ → ℕ → List ℕ → ℕ → ℕ → ℕ
counted counts zones plan unit place =
    get_or counts place 0 + cond (nat_lt (place / zones) unit && gives zones place plan) 1 0

pub none_counted : (counts : List ℕ) (zones : ℕ) (plan : List ℕ) (n : ℕ) → length counts ≡ n → counts ≡ list_below n (counted counts zones plan 0)
none_counted counts zones plan n whole =
    list_below-from n (counted counts zones plan 0) counts 0 whole
    (λ k h. let low : nat_lt (k / zones) 0 ≡ false = le-ltb (k / zones) 0 (omega arith) in
    omega (arith, ap {B = ℕ} (λ b. cond (b && gives zones k plan) 1 0) low))

-- the count of the next unit's zone is still the old one
pub still_old : (counts : List ℕ) (zones : ℕ) (plan : List ℕ) (unit place : ℕ) → place / zones ≡ unit → counted counts zones plan unit place ≡ get_or counts place 0
still_old counts zones plan unit place here =
    let past : nat_lt (place / zones) unit ≡ false = le-ltb (place / zones) unit (omega arith) in
    omega (arith, ap {B = ℕ} (λ b. cond (b && gives zones place plan) 1 0) past)

-- the next unit is counted
counted_here : (counts : List ℕ) (zones : ℕ) (plan : List ℕ) (unit place : ℕ) → place / zones ≡ unit → gives zones place plan ≡ true
    → get_or counts place 0 + 1 ≡ counted counts zones plan (unit + 1) place
counted_here counts zones plan unit place here gives_it =
    let reached : nat_lt (place / zones) (unit + 1) ≡ true = lt-ltb (place / zones) (unit + 1) (omega arith) in
    omega (arith, ap {B = ℕ} (λ b. cond (b && gives zones place plan) 1 0) reached, ap {B = ℕ} (λ b. cond (true && b) 1 0) gives_it)

counted_there : (counts : List ℕ) (zones : ℕ) (plan : List ℕ) (unit place : ℕ)
    → (place ≡ unit * zones + get_or plan unit 0 → ⊥) → counted counts zones plan unit place ≡ counted counts zones plan (unit + 1) place
counted_there counts zones plan unit place other =
    elim (cases_lt (place / zones) unit) [
      | inl before ↦ (
          ap (λ b. get_or counts place 0 + cond (b && gives zones place plan) 1 0)
          (lt-ltb (place / zones) unit before ∙ sym (lt-ltb (place / zones) (unit + 1) (omega arith))))
      | inr from ↦ elim (cases_eq (place / zones) unit) [
        | inl here ↦ (
            let differs : gives zones place plan ≡ false =
            ne_eqb (get_or plan (place / zones) 0) (place % zones)
            (λ same. other (sym (div-add-mod place zones)
            ∙ ap (λ u. zones * u + place % zones) here
            ∙ ap (λ z. zones * unit + z) (sym same ∙ ap (λ u. get_or plan u 0) here)
            ∙ ap (λ m. m + get_or plan unit 0) (mul_comm zones unit))) in
            let old : nat_lt (place / zones) unit ≡ false = le-ltb (place / zones) unit from in
            let new : nat_lt (place / zones) (unit + 1) ≡ true = lt-ltb (place / zones) (unit + 1) (omega arith) in
            ap (λ b. get_or counts place 0 + cond (b && gives zones place plan) 1 0) old
            ∙ sym (ap (λ b. get_or counts place 0 + cond (b && gives zones place plan) 1 0) new
            ∙ ap (λ b. get_or counts place 0 + cond b 1 0) differs))
        | inr ne ↦ (
            ap (λ b. get_or counts place 0 + cond (b && gives zones place plan) 1 0)
            (le-ltb (place / zones) unit from ∙ sym (le-ltb (place / zones) (unit + 1) (omega arith))))
      ]
    ]

pub unit_counted : (counts now : List ℕ) (units zones : ℕ) (plan : List ℕ) (unit zone old d : ℕ)
    → now ≡ list_below (units * zones) (counted counts zones plan unit) → unit < units → zone < zones → zone ≡ get_or plan unit 0
    → old ≡ get_or now (unit * zones + zone) d
    → set now (unit * zones + zone) (old + 1) ≡ list_below (units * zones) (counted counts zones plan (unit + 1))
unit_counted counts now units zones plan unit zone old d so_far h i given at =
    let place : ℕ = unit * zones + zone in
    let inside : place < units * zones = place_inside unit zone units zones h i in
    let quotient : place / zones ≡ unit = div-mul-add unit zones zone i in
    let gives_it : gives zones place plan ≡ true =
    eq-eqb (get_or plan (place / zones) 0) (place % zones) (ap (λ u. get_or plan u 0) quotient ∙ sym given ∙ sym (mod-mul-add unit zones zone i)) in
    let value : old + 1 ≡ counted counts zones plan (unit + 1) place =
    ap (λ n. n + 1)
    (at ∙ ap (λ (xs : List ℕ). get_or xs place d) so_far
    ∙ get_or-list_below (units * zones) place (counted counts zones plan unit) d inside
    ∙ still_old counts zones plan unit place quotient)
    ∙ counted_here counts zones plan unit place quotient gives_it in
    ap (λ (xs : List ℕ). set xs place (old + 1)) so_far
    ∙ list_below-set (units * zones) place (counted counts zones plan unit) (counted counts zones plan (unit + 1)) (old + 1) 0 inside value
    (λ k below other. counted_there counts zones plan unit k (λ same. other (same ∙ ap (λ z. unit * zones + z) (sym given))))

-- where the next unit is counted, and that there is room for it
pub counted_inside : (counts now : List ℕ) (units zones : ℕ) (plan : List ℕ) (unit zone : ℕ)
    → now ≡ list_below (units * zones) (counted counts zones plan unit) → unit < units → zone < zones → unit * zones + zone < length now
counted_inside counts now units zones plan unit zone so_far h i =
    omega (arith, ap length so_far, length-list_below (units * zones) (counted counts zones plan unit), place_inside unit zone units zones h i)

pub counted_room : (counts now : List ℕ) (units zones : ℕ) (plan : List ℕ) (unit zone most d : ℕ)
    → length counts ≡ units * zones → All (λ count. count < most) counts
    → now ≡ list_below (units * zones) (counted counts zones plan unit) → unit < units → zone < zones → get_or now (unit * zones + zone) d < most
counted_room counts now units zones plan unit zone most d whole few so_far h i =
    let place : ℕ = unit * zones + zone in
    let inside : place < units * zones = place_inside unit zone units zones h i in
    let old : get_or now place d ≡ get_or counts place 0 =
    ap (λ (xs : List ℕ). get_or xs place d) so_far
    ∙ get_or-list_below (units * zones) place (counted counts zones plan unit) d inside
    ∙ still_old counts zones plan unit place (div-mul-add unit zones zone i) in
    omega (arith, old, few place 0 (omega arith))

-- all units are counted
pub all_counted : (counts now : List ℕ) (units zones unit : ℕ) (plan : List ℕ) → units ≤ unit
    → now ≡ list_below (units * zones) (counted counts zones plan unit)
    → now ≡ list_below (units * zones) (count_with zones plan counts)
all_counted counts now units zones unit plan whole so_far =
    so_far
    ∙ list_below-same (units * zones) (counted counts zones plan unit) (count_with zones plan counts) 0
    (λ k h. elim (cases_lt 0 zones) [
      | inl some_zone ↦ ap (λ b. get_or counts k 0 + cond (b && gives zones k plan) 1 0) (lt-ltb (k / zones) unit (omega (arith, div_below k zones units some_zone h)))
      | inr no_zone ↦ (let none : zones ≡ 0 = omega arith in absurd (omega (arith, ap {B = ℕ} (λ z. units * z) none)))
    ])
