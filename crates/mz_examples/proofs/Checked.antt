-- Parts that are written out: a test of them by computation shows that they are a problem.
use Rattle.std.proofs.Common.{◌≡◌, ℕ, zero, suc, ◌*◌, ◌^◌, ◌<◌, ◌≤◌, Bool, true, false, not, ◌&&◌, ◌||◌, List, [], ◌∷◌, length, get_or, Option, None, Some, refl, sym, subst, inl, inr, arith, ◌==◌, lit<}
use Rattle.std.specs.Prelude.{slice_index, nat_lt, nat_le, is_none, IsSomeAnd}
use Rattle.std.specs.List.{All, AllPairs, list_all}
use Rattle.std.proofs.lemmas.Bool.{and_parts, cases_eq, eqb-false, eqb-true, leb-true, ltb-true, le-ltb, not-true, or_cases, both_ways}
use Rattle.std.proofs.lemmas.List.Elements.{All-weaker}
use Rattle.std.proofs.lemmas.List.Sums.{AllPass-from_list_all}
use Rattle.mz_num.specs.Round.{round}
use Rattle.mz_model.specs.declared.parts.Parts.{Parts}
use Rattle.mz_model.specs.declared.parts.Target.{Target}
use Rattle.mz_model.specs.Amounts.{total_of}
use Rattle.mz_model.specs.Boundary.{greatest_rate, IsLength}
use Rattle.mz_model.specs.Parts.{unit_count, zone_count, feature_count, target_count, cost_at, rate_at, target_at}
use Rattle.mz_num.specs.Places.{sum_below, greatest_below}
use Rattle.mz_model.specs.Targets.{gain_of}
use Rattle.mz_num.specs.Order.{IsBefore}
use Rattle.mz_num.specs.ZoneSet.{IsZoneSet}
use Rattle.mz_model.specs.Valid.{AreDistinct, IsAmount, IsInShape, IsOverallRow, IsPair, IsSmall, IsValid, IsWithinLimits, IsZoneRow}

-- each place below n passes
abbrev pub all_below : ℕ → (ℕ → Bool) → Bool
all_below zero test = true
all_below (suc n) test = test n && all_below n test

all_below-at : (n k : ℕ) (test : ℕ → Bool) → all_below n test ≡ true → k < n → test k ≡ true
all_below-at zero k test all h = absurd (omega arith)
all_below-at (suc n) k test all h =
    elim (cases_eq k n) [
      | inl e ↦ subst (λ i. test i ≡ true) (sym e) (and_parts (test n) (all_below n test) all).0
      | inr ne ↦ all_below-at n k test (and_parts (test n) (all_below n test) all).1 (omega arith)
    ]

-- each element stands so to each behind it
abbrev pub pairs_all : {X : Type 0} → (X → X → Bool) → List X → Bool
pairs_all test [] = true
pairs_all test (x ∷ xs) = list_all (test x) xs && pairs_all test xs

pairs_all-from : {X : Type 0} (test : X → X → Bool) (xs : List X) → pairs_all test xs ≡ true → AllPairs (λ a b. test a b ≡ true) xs
pairs_all-from test [] all i j d h k = absurd (omega arith)
pairs_all-from test (x ∷ xs) all i zero d h k = absurd (omega arith)
pairs_all-from test (x ∷ xs) all zero (suc j) d h k = AllPass-from_list_all (test x) xs (and_parts (list_all (test x) xs) (pairs_all test xs) all).0 j d (omega arith)
pairs_all-from test (x ∷ xs) all (suc i) (suc j) d h k = pairs_all-from test xs (and_parts (list_all (test x) xs) (pairs_all test xs) all).1 i j d (omega arith) (omega arith)

-- what holds of each element that passes
from_list_all : {X : Type 0} (P : X → Type 0) (test : X → Bool) (xs : List X) → ((x : X) → test x ≡ true → P x) → list_all test xs ≡ true → All P xs
from_list_all P test xs each all = All-weaker (λ x. test x ≡ true) P each xs (AllPass-from_list_all test xs all)

abbrev differ : ℕ → ℕ → Bool
differ a b = not (a == b)

distinct_from : (ids : List ℕ) → pairs_all differ ids ≡ true → AreDistinct ids
distinct_from ids all i j d h k = eqb-false (get_or ids i d) (get_or ids j d) (not-true (get_or ids i d == get_or ids j d) (pairs_all-from differ ids all i j d h k))

abbrev is_before : ℕ × ℕ × ℕ → ℕ × ℕ × ℕ → Bool
is_before a b = nat_lt a.0 b.0 || (a.0 == b.0 && nat_lt a.1 b.1)

before_from : (a b : ℕ × ℕ × ℕ) → is_before a b ≡ true → IsBefore a b
before_from a b test =
    elim (or_cases (nat_lt a.0 b.0) (a.0 == b.0 && nat_lt a.1 b.1) test) [
      | inl less ↦ inl (ltb-true a.0 b.0 less)
      | inr both ↦ inr (eqb-true a.0 b.0 (and_parts (a.0 == b.0) (nat_lt a.1 b.1) both).0, ltb-true a.1 b.1 (and_parts (a.0 == b.0) (nat_lt a.1 b.1) both).1)
    ]

order_from : (rows : List (ℕ × ℕ × ℕ)) → pairs_all is_before rows ≡ true → AllPairs IsBefore rows
order_from rows all i j d h k = before_from (get_or rows i d) (get_or rows j d) (pairs_all-from is_before rows all i j d h k)

abbrev is_zone_set : ℕ → ℕ → Bool
is_zone_set zones set = nat_lt 0 set && nat_lt set (2 ^ zones)

zone_set_from : (zones set : ℕ) → is_zone_set zones set ≡ true → IsZoneSet zones set
zone_set_from zones set test = record { some_zone = ltb-true 0 set (and_parts (nat_lt 0 set) (nat_lt set (2 ^ zones)) test).0; in_range = ltb-true set (2 ^ zones) (and_parts (nat_lt 0 set) (nat_lt set (2 ^ zones)) test).1 }

abbrev is_pair : ℕ → ℕ × ℕ × ℕ → Bool
is_pair units edge = nat_lt edge.0 edge.1 && nat_lt edge.1 units

pair_from : (units : ℕ) (edge : ℕ × ℕ × ℕ) → is_pair units edge ≡ true → IsPair units edge
pair_from units edge test = record { first = ltb-true edge.0 edge.1 (and_parts (nat_lt edge.0 edge.1) (nat_lt edge.1 units) test).0; second = ltb-true edge.1 units (and_parts (nat_lt edge.0 edge.1) (nat_lt edge.1 units) test).1 }

abbrev is_amount : ℕ → ℕ → ℕ × ℕ × ℕ → Bool
is_amount units features row = nat_lt row.0 units && (nat_lt row.1 features && nat_lt 0 row.2)

amount_from : (units features : ℕ) (row : ℕ × ℕ × ℕ) → is_amount units features row ≡ true → IsAmount units features row
amount_from units features row test =
    let rest : (nat_lt row.1 features && nat_lt 0 row.2) ≡ true = (and_parts (nat_lt row.0 units) (nat_lt row.1 features && nat_lt 0 row.2) test).1 in
    record {
      unit = ltb-true row.0 units (and_parts (nat_lt row.0 units) (nat_lt row.1 features && nat_lt 0 row.2) test).0;
      feature = ltb-true row.1 features (and_parts (nat_lt row.1 features) (nat_lt 0 row.2) rest).0;
      positive = ltb-true 0 row.2 (and_parts (nat_lt row.1 features) (nat_lt 0 row.2) rest).1;
    }

none_from : (zone : Option ℕ) → is_none zone ≡ true → zone ≡ None
none_from None test = refl
none_from (Some zone) test = absurd (cc)

abbrev is_overall_row : ℕ → Target → Bool
is_overall_row feature row = row.feature == feature && is_none row.zone

overall_row_from : (feature : ℕ) (row : Target) → is_overall_row feature row ≡ true → IsOverallRow feature row
overall_row_from feature row test = record { own = eqb-true row.feature feature (and_parts (row.feature == feature) (is_none row.zone) test).0; everywhere = none_from row.zone (and_parts (row.feature == feature) (is_none row.zone) test).1 }

abbrev zone_below : ℕ → Option ℕ → Bool
zone_below zones None = false
zone_below zones (Some zone) = nat_lt zone zones

zone_from : (zones : ℕ) (zone : Option ℕ) → zone_below zones zone ≡ true → IsSomeAnd zone (λ z. z < zones)
zone_from zones None test = absurd (cc)
zone_from zones (Some zone) test = ltb-true zone zones test

abbrev is_zone_row : ℕ → ℕ → Target → Bool
is_zone_row zones features row = nat_lt row.feature features && zone_below zones row.zone

zone_row_from : (zones features : ℕ) (row : Target) → is_zone_row zones features row ≡ true → IsZoneRow zones features row
zone_row_from zones features row test = record { feature = ltb-true row.feature features (and_parts (nat_lt row.feature features) (zone_below zones row.zone) test).0; zone = zone_from zones row.zone (and_parts (nat_lt row.feature features) (zone_below zones row.zone) test).1 }

abbrev is_length : Parts → ℕ → Bool
is_length parts len = nat_le len (10 ^ 18) && nat_le (round (len * greatest_rate parts) 1000000) (10 ^ 18)

length_from : (parts : Parts) (len : ℕ) → is_length parts len ≡ true → IsLength parts len
length_from parts len test =
    record {
      small = leb-true len (10 ^ 18) (and_parts (nat_le len (10 ^ 18)) (nat_le (round (len * greatest_rate parts) 1000000) (10 ^ 18)) test).0;
      term = leb-true (round (len * greatest_rate parts) 1000000) (10 ^ 18) (and_parts (nat_le len (10 ^ 18)) (nat_le (round (len * greatest_rate parts) 1000000) (10 ^ 18)) test).1;
    }

abbrev pub small_tests : Parts → List Bool
small_tests parts = nat_le (unit_count parts) 100000 ∷ nat_le (zone_count parts) 60 ∷ nat_le (feature_count parts) 10000 ∷ nat_le (target_count parts) 100000 ∷ nat_le (length parts.edges) 1000000 ∷ nat_le (length parts.amounts) 5000000 ∷ []

abbrev pub shape_tests : Parts → List Bool
shape_tests parts =
    pairs_all differ parts.unit_ids ∷ pairs_all differ parts.zone_ids ∷ pairs_all differ parts.feature_ids ∷ (length parts.names == feature_count parts) ∷ nat_lt parts.available (zone_count parts)
    ∷ (length parts.allowed == unit_count parts) ∷ all_below (unit_count parts) (λ unit. is_zone_set (zone_count parts) (slice_index parts.allowed unit)) ∷ (length parts.costs == unit_count parts * zone_count parts) ∷ (length parts.rates == zone_count parts * zone_count parts)
    ∷ all_below (zone_count parts) (λ k. all_below (zone_count parts) (λ l. rate_at parts k l == rate_at parts l k)) ∷ list_all (is_pair (unit_count parts)) parts.edges ∷ pairs_all is_before parts.edges ∷ (length parts.outer == unit_count parts) ∷ nat_le (feature_count parts) (target_count parts)
    ∷ all_below (feature_count parts) (λ row. is_overall_row row (target_at parts row)) ∷ all_below (target_count parts) (λ row. nat_lt row (feature_count parts) || is_zone_row (zone_count parts) (feature_count parts) (target_at parts row))
    ∷ list_all (is_amount (unit_count parts) (feature_count parts)) parts.amounts ∷ pairs_all is_before parts.amounts ∷ (length parts.fractions == zone_count parts * feature_count parts) ∷ []

abbrev pub limit_tests : Parts → List Bool
limit_tests parts =
    nat_le (sum_below (unit_count parts) (λ unit. greatest_below (zone_count parts) (cost_at parts unit))) (10 ^ 18) ∷ list_all (λ rate. nat_le rate (10 ^ 18)) parts.rates ∷ list_all (λ (edge : ℕ × ℕ × ℕ). is_length parts edge.2) parts.edges ∷ list_all (is_length parts) parts.outer
    ∷ all_below (feature_count parts) (λ feature. nat_le (total_of parts.amounts feature) (10 ^ 18)) ∷ all_below (target_count parts) (λ row. nat_le (sum_below (unit_count parts) (λ unit. greatest_below (zone_count parts) (gain_of parts row unit))) (10 ^ 18))
    ∷ all_below (target_count parts) (λ row. nat_le (target_at parts row).level (10 ^ 18)) ∷ all_below (target_count parts) (λ row. nat_le (target_at parts row).weight (10 ^ 18)) ∷ []

small_from : (parts : Parts) → list_all (λ test. test) (small_tests parts) ≡ true → IsSmall parts
small_from parts all =
    let at : All (λ test. test ≡ true) (small_tests parts) = AllPass-from_list_all (λ test. test) (small_tests parts) all in
    record {
      units = leb-true (unit_count parts) 100000 (at 0 true (lit< tt));
      zones = leb-true (zone_count parts) 60 (at 1 true (lit< tt));
      features = leb-true (feature_count parts) 10000 (at 2 true (lit< tt));
      rows = leb-true (target_count parts) 100000 (at 3 true (lit< tt));
      edges = leb-true (length parts.edges) 1000000 (at 4 true (lit< tt));
      amounts = leb-true (length parts.amounts) 5000000 (at 5 true (lit< tt));
    }

zone_row_at : (parts : Parts) (row : ℕ) → (nat_lt row (feature_count parts) || is_zone_row (zone_count parts) (feature_count parts) (target_at parts row)) ≡ true → feature_count parts ≤ row → IsZoneRow (zone_count parts) (feature_count parts) (target_at parts row)
zone_row_at parts row test h =
    elim (or_cases (nat_lt row (feature_count parts)) (is_zone_row (zone_count parts) (feature_count parts) (target_at parts row)) test) [
      | inl overall ↦ absurd (both_ways (nat_lt row (feature_count parts)) (le-ltb row (feature_count parts) h) overall)
      | inr zonal ↦ zone_row_from (zone_count parts) (feature_count parts) (target_at parts row) zonal
    ]

shape_from : (parts : Parts) → list_all (λ test. test) (shape_tests parts) ≡ true → IsInShape parts
shape_from parts all =
    let at : All (λ test. test ≡ true) (shape_tests parts) = AllPass-from_list_all (λ test. test) (shape_tests parts) all in
    record {
      unit_ids = distinct_from parts.unit_ids (at 0 true (lit< tt));
      zone_ids = distinct_from parts.zone_ids (at 1 true (lit< tt));
      feature_ids = distinct_from parts.feature_ids (at 2 true (lit< tt));
      names = eqb-true (length parts.names) (feature_count parts) (at 3 true (lit< tt));
      available = ltb-true parts.available (zone_count parts) (at 4 true (lit< tt));
      allowed = eqb-true (length parts.allowed) (unit_count parts) (at 5 true (lit< tt));
      zone_sets = λ unit h. zone_set_from (zone_count parts) (slice_index parts.allowed unit) (all_below-at (unit_count parts) unit (λ u. is_zone_set (zone_count parts) (slice_index parts.allowed u)) (at 6 true (lit< tt)) h);
      costs = eqb-true (length parts.costs) (unit_count parts * zone_count parts) (at 7 true (lit< tt));
      rates = eqb-true (length parts.rates) (zone_count parts * zone_count parts) (at 8 true (lit< tt));
      even_rates = λ k l h i. eqb-true (rate_at parts k l) (rate_at parts l k) (all_below-at (zone_count parts) l (λ m. rate_at parts k m == rate_at parts m k) (all_below-at (zone_count parts) k (λ n. all_below (zone_count parts) (λ m. rate_at parts n m == rate_at parts m n)) (at 9 true (lit< tt)) h) i);
      pairs = from_list_all (IsPair (unit_count parts)) (is_pair (unit_count parts)) parts.edges (pair_from (unit_count parts)) (at 10 true (lit< tt));
      pairs_in_order = order_from parts.edges (at 11 true (lit< tt));
      outer = eqb-true (length parts.outer) (unit_count parts) (at 12 true (lit< tt));
      enough_rows = leb-true (feature_count parts) (target_count parts) (at 13 true (lit< tt));
      overall_rows = λ row h. overall_row_from row (target_at parts row) (all_below-at (feature_count parts) row (λ r. is_overall_row r (target_at parts r)) (at 14 true (lit< tt)) h);
      zone_rows = λ row h i. zone_row_at parts row (all_below-at (target_count parts) row (λ r. nat_lt r (feature_count parts) || is_zone_row (zone_count parts) (feature_count parts) (target_at parts r)) (at 15 true (lit< tt)) i) h;
      amounts = from_list_all (IsAmount (unit_count parts) (feature_count parts)) (is_amount (unit_count parts) (feature_count parts)) parts.amounts (amount_from (unit_count parts) (feature_count parts)) (at 16 true (lit< tt));
      amounts_in_order = order_from parts.amounts (at 17 true (lit< tt));
      fractions = eqb-true (length parts.fractions) (zone_count parts * feature_count parts) (at 18 true (lit< tt));
    }

limits_from : (parts : Parts) → list_all (λ test. test) (limit_tests parts) ≡ true → IsWithinLimits parts
limits_from parts all =
    let at : All (λ test. test ≡ true) (limit_tests parts) = AllPass-from_list_all (λ test. test) (limit_tests parts) all in
    record {
      cost = leb-true (sum_below (unit_count parts) (λ unit. greatest_below (zone_count parts) (cost_at parts unit))) (10 ^ 18) (at 0 true (lit< tt));
      rate = from_list_all (λ rate. rate ≤ 10 ^ 18) (λ rate. nat_le rate (10 ^ 18)) parts.rates (λ rate test. leb-true rate (10 ^ 18) test) (at 1 true (lit< tt));
      pairs = from_list_all (λ (edge : ℕ × ℕ × ℕ). IsLength parts edge.2) (λ (edge : ℕ × ℕ × ℕ). is_length parts edge.2) parts.edges (λ edge test. length_from parts edge.2 test) (at 2 true (lit< tt));
      outer = from_list_all (IsLength parts) (is_length parts) parts.outer (length_from parts) (at 3 true (lit< tt));
      amount = λ feature h. leb-true (total_of parts.amounts feature) (10 ^ 18) (all_below-at (feature_count parts) feature (λ f. nat_le (total_of parts.amounts f) (10 ^ 18)) (at 4 true (lit< tt)) h);
      gain = λ row h. leb-true (sum_below (unit_count parts) (λ unit. greatest_below (zone_count parts) (gain_of parts row unit))) (10 ^ 18) (all_below-at (target_count parts) row (λ r. nat_le (sum_below (unit_count parts) (λ unit. greatest_below (zone_count parts) (gain_of parts r unit))) (10 ^ 18)) (at 5 true (lit< tt)) h);
      level = λ row h. leb-true (target_at parts row).level (10 ^ 18) (all_below-at (target_count parts) row (λ r. nat_le (target_at parts r).level (10 ^ 18)) (at 6 true (lit< tt)) h);
      weight = λ row h. leb-true (target_at parts row).weight (10 ^ 18) (all_below-at (target_count parts) row (λ r. nat_le (target_at parts r).weight (10 ^ 18)) (at 7 true (lit< tt)) h);
    }

-- parts that pass each test are a problem
pub valid_from : (parts : Parts) → list_all (λ test. test) (small_tests parts) ≡ true → list_all (λ test. test) (shape_tests parts) ≡ true → list_all (λ test. test) (limit_tests parts) ≡ true → IsValid parts
valid_from parts small shape limits = record { small = small_from parts small; shape = shape_from parts shape; limits = limits_from parts limits }
