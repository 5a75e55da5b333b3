use Rattle.std.proofs.Common.{◌≡◌, ℕ, zero, suc, ◌<◌, ◌≤◌, ◌^◌, ◌+◌, ◌*◌, [], ◌∷◌, refl, sym, ◌∙◌, subst, inl, inr, arith, get_or}
use Rattle.std.specs.Prelude.{◌≢◌, slice_index, replicate}
use Rattle.std.specs.List.{AllPairs}
use Rattle.std.proofs.lemmas.Bool.{cases_lt, leb-true, ltb-true}
use Rattle.std.proofs.lemmas.List.{get_or-replicate, get_or_past, length-replicate}
use Rattle.std.proofs.lemmas.List.Elements.{All-nil, All-replicate}
use Rattle.std.proofs.lemmas.List.FromFn.{get_or-map-range_with_len, length-map-range_with_len}
use Rattle.mz_num.specs.Round.{round}
use Rattle.mz_model.specs.declared.parts.Parts.{Parts}
use Rattle.mz_model.specs.Boundary.{greatest_rate, IsLength}
use Rattle.mz_model.specs.Parts.{rate_at}
use Rattle.mz_num.specs.Places.{list_below}
use Rattle.mz_num.specs.Order.{IsBefore}
use Rattle.mz_num.specs.ZoneSet.{IsZoneSet}
use Rattle.mz_model.specs.Valid.{AreDistinct, IsInShape, IsSmall, IsValid, IsWithinLimits}
use Rattle.mz_examples.proofs.ExampleLaws.{same_parts}
use Rattle.mz_examples.proofs.parts.make_sixty_zones.Goals as goal

abbrev sixty : Parts
sixty = record {
  unit_ids = 1 ∷ [];
  zone_ids = list_below 60 (λ id. id);
  feature_ids = [];
  names = [];
  available = 0;
  allowed = 1152921504606846975 ∷ [];
  costs = replicate 60 0;
  rates = replicate 3600 0;
  edges = [];
  outer = 0 ∷ [];
  targets = [];
  amounts = [];
  fractions = [];
}

none_below : {X : Type 0} (k : ℕ) → k < 0 → X
none_below k h = absurd (omega arith)

no_pairs : {X : Type 0} (R : X → X → Type 0) → AllPairs R []
no_pairs R i j d h k = none_below j k

one_alone : (id : ℕ) → AreDistinct (id ∷ [])
one_alone id i j d h k = absurd (omega arith)

in_turn : (n : ℕ) → AreDistinct (list_below n (λ id. id))
in_turn n i j d h k same =
    let within : j < n = subst (λ m. j < m) (length-map-range_with_len (λ id. id) 0 n) k in
    let first : get_or (list_below n (λ id. id)) i d ≡ i = get_or-map-range_with_len (λ id. id) 0 n i i d (omega arith) (omega arith) in
    let second : get_or (list_below n (λ id. id)) j d ≡ j = get_or-map-range_with_len (λ id. id) 0 n j j d within (omega arith) in
    let equal : i ≡ j = sym first ∙ same ∙ second in
    absurd (omega arith)

zero_at : (n i : ℕ) → slice_index (replicate n 0) i ≡ 0
zero_at n i =
    elim (cases_lt i n) [
      | inl h ↦ get_or-replicate n i 0 0 h
      | inr h ↦ get_or_past (replicate n 0) i 0 (subst (λ m. m ≤ i) (sym (length-replicate n 0)) h)
    ]

even : (k l : ℕ) → rate_at sixty k l ≡ rate_at sixty l k
even k l = zero_at 3600 (k * 60 + l) ∙ sym (zero_at 3600 (l * 60 + k))

one_set : (unit : ℕ) → unit < 1 → IsZoneSet 60 (slice_index (1152921504606846975 ∷ []) unit)
one_set zero h = record { some_zone = ltb-true 0 1152921504606846975 refl; in_range = ltb-true 1152921504606846975 (2 ^ 60) refl }
one_set (suc unit) h = absurd (omega arith)

no_term : (rate : ℕ) → round (0 * rate) 1000000 ≤ 10 ^ 18
unfolding round
no_term rate =
    let none : 0 ≡ 0 * rate = omega arith in
    subst (λ product. round product 1000000 ≤ 10 ^ 18) none (leb-true 0 (10 ^ 18) refl)

no_length : IsLength sixty 0
no_length = record { small = leb-true 0 (10 ^ 18) refl; term = no_term (greatest_rate sixty) }

shape : IsInShape sixty
shape = record {
  unit_ids = one_alone 1;
  zone_ids = in_turn 60;
  feature_ids = no_pairs (λ a b. a ≢ b);
  names = refl;
  available = ltb-true 0 60 refl;
  allowed = refl;
  zone_sets = one_set;
  costs = length-replicate {A = ℕ} 60 0;
  rates = length-replicate {A = ℕ} 3600 0;
  even_rates = λ k l h i. even k l;
  pairs = All-nil _;
  pairs_in_order = no_pairs IsBefore;
  outer = refl;
  enough_rows = leb-true 0 0 refl;
  overall_rows = λ row h. none_below row h;
  zone_rows = λ row h i. none_below row i;
  amounts = All-nil _;
  amounts_in_order = no_pairs IsBefore;
  fractions = refl;
}

limits : IsWithinLimits sixty
limits = record {
  cost = leb-true 0 (10 ^ 18) refl;
  rate = All-replicate (λ x. x ≤ 10 ^ 18) 3600 0 (leb-true 0 (10 ^ 18) refl);
  pairs = All-nil _;
  outer = All-replicate (IsLength sixty) 1 0 no_length;
  amount = λ feature h. none_below feature h;
  gain = λ row h. none_below row h;
  level = λ row h. none_below row h;
  weight = λ row h. none_below row h;
}

small : IsSmall sixty
small = record { units = leb-true 1 100000 refl; zones = leb-true 60 60 refl; features = leb-true 0 10000 refl; rows = leb-true 0 100000 refl; edges = leb-true 0 1000000 refl; amounts = leb-true 0 5000000 refl }

valid : IsValid sixty
valid = record { small = small; shape = shape; limits = limits }

pub returns : goal.returns
returns c = subst IsValid (sym (same_parts sixty _ _ _ _ _ _ _ _ _ _ _ _ c.in_ok-unit_ids.ensures c.in_ok-zone_ids.ensures c.in_ok-feature_ids.ensures (c.new-names.ensures ∙ c.new.ensures.items) c.in_ok-allowed.ensures c.in_ok-costs.ensures c.in_ok-rates.ensures c.in_ok-edges.ensures c.in_ok-outer.ensures c.in_ok-targets.ensures c.in_ok-amounts.ensures c.in_ok-fractions.ensures)) valid
