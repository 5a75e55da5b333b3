-- The first least of some numbers, and a unit's best zone.
use Rattle.std.proofs.Common.{◌≡◌, ℕ, zero, suc, ◌+◌, ◌<◌, ◌≤◌, ◌==◌, Bool, true, false, cond, List, length, get_or, refl, ap, sym, ◌∙◌, subst, arith, inl, inr}
use Rattle.std.specs.Prelude.{ℤ, pos, ◌-ℤ◌, IsTrue, if◌then◌else◌, int_lt, nat_le, slice_index}
use Rattle.std.specs.List.{Contains, position_or_len}
use Rattle.std.proofs.lemmas.Bool.{cases_Bool, cases_eq, cases_lt, cond-false, cond-true, eq-eqb, le-leb, lt-leb, ne_eqb}
use Rattle.std.proofs.lemmas.Int.{ints}
use Rattle.std.proofs.lemmas.List.{get_or_default, set-get_or}
use Rattle.std.proofs.lemmas.List.Elements.{All-from_get_or}
use Rattle.std.proofs.lemmas.List.Folds.{list_all_at}
use Rattle.std.proofs.lemmas.List.Sums.{list_all-from_AllPass, position_or_len_is}
use Rattle.mz_model.specs.declared.parts.Parts.{Parts}
use Rattle.mz_model.specs.Move.{moved_plan}
use Rattle.mz_model.specs.Parts.{unit_count}
use Rattle.mz_model.specs.Plans.{IsLegalPlan}
use Rattle.mz_model.specs.Scores.{score_of_plan}
use Rattle.mz_model.specs.Zones.{allowed_zones, is_allowed}
use Rattle.mz_delta.specs.declared.judged.Judged.{Judged}
use Rattle.mz_delta.specs.Judged.{IsDifference}
use Rattle.mz_model.specs.Valid.{IsValid}
use Rattle.mz_model.proofs.ZoneLaws.{allowed_zones-allowed, allowed_zones-has, is_allowed-in_range}
use Rattle.mz_improve.specs.declared.best.Candidate.{Candidate}
use Rattle.mz_improve.specs.Improved.{best_zone, candidate_zones, change_at, is_least, score_with, unit_improved}

-- ---- the first least of n numbers

-- of the first n numbers none is lower than the one at the place, and each before it is greater
pub record IsFirstLeast (n : ℕ) (f : ℕ → ℕ) (place : ℕ) : Type 0 where
  pub in_range : place < n
  pub least : (k : ℕ) → k < n → f place ≤ f k
  pub first : (k : ℕ) → k < place → f place < f k

pub first-one : (f : ℕ → ℕ) → IsFirstLeast 1 f 0
first-one f = record {
  in_range = omega arith;
  least = λ k h. (let only : k ≡ 0 = omega arith in rw only (omega arith));
  first = λ k h. absurd (omega arith);
}

-- one number more: it is not lower, or it is
pub first-kept : (n : ℕ) (f : ℕ → ℕ) (place : ℕ) → IsFirstLeast n f place → f place ≤ f n → IsFirstLeast (n + 1) f place
first-kept n f place is higher = record {
  in_range = omega (arith, is.in_range);
  least = λ k h. elim (cases_lt k n) [
    | inl before ↦ is.least k before
    | inr end ↦ (let last : k ≡ n = omega arith in rw last higher)
  ];
  first = is.first;
}

pub first-taken : (n : ℕ) (f : ℕ → ℕ) (place : ℕ) → IsFirstLeast n f place → f n < f place → IsFirstLeast (n + 1) f n
first-taken n f place is lower = record {
  in_range = omega arith;
  least = λ k h. elim (cases_lt k n) [
    | inl before ↦ omega (arith, lower, is.least k before)
    | inr end ↦ (let last : k ≡ n = omega arith in rw last (omega arith))
  ];
  first = λ k h. omega (arith, lower, is.least k h);
}

pub record FirstLeast (n : ℕ) (f : ℕ → ℕ) : Type 0 where
  pub place : ℕ
  pub is : IsFirstLeast n f place

pub first-least : (n : ℕ) (f : ℕ → ℕ) → FirstLeast (suc n) f
first-least zero f = record { place = 0; is = first-one f }
first-least (suc n) f =
    let before = first-least n f in
    let next : suc n + 1 ≡ suc (suc n) = omega arith in
    elim (cases_lt (f (suc n)) (f before.place)) [
      | inl lower ↦ record { place = suc n; is = subst (λ m. IsFirstLeast m f (suc n)) next (first-taken (suc n) f before.place before.is lower) }
      | inr higher ↦ record { place = before.place; is = subst (λ m. IsFirstLeast m f before.place) next (first-kept (suc n) f before.place before.is higher) }
    ]

-- ---- the best zone

-- the score with the unit in its candidate zone k
abbrev pub score_at : Parts → List ℕ → ℕ → ℕ → ℕ
score_at parts plan unit k = score_with parts plan unit (get_or (candidate_zones parts plan unit) k 0)

-- the zone is the first least of the first n candidates
pub record IsBestOf (parts : Parts) (plan : List ℕ) (unit n zone : ℕ) : Type 0 where
  pub place : ℕ
  pub first : IsFirstLeast n (score_at parts plan unit) place
  pub zone_is : zone ≡ get_or (candidate_zones parts plan unit) place 0

pub best-at : (parts : Parts) (plan : List ℕ) (unit n zone : ℕ) → n ≡ length (candidate_zones parts plan unit) → IsBestOf parts plan unit n zone → zone ≡ best_zone parts plan unit
unfolding best_zone
best-at parts plan unit n zone all is =
    let zones = candidate_zones parts plan unit in let f = score_at parts plan unit in
    let found : position_or_len (is_least parts plan unit) zones ≡ is.place =
    position_or_len_is (is_least parts plan unit) zones is.place 0 (omega (arith, all, is.first.in_range))
    (λ k h. list_all_at (λ other. nat_le (f k) (score_with parts plan unit other)) zones is.place 0 (omega (arith, all, is.first.in_range)) (lt-leb (f k) (f is.place) (is.first.first k h)))
    (λ _. list_all-from_AllPass (λ other. nat_le (f is.place) (score_with parts plan unit other)) zones
    (All-from_get_or (λ other. nat_le (f is.place) (score_with parts plan unit other) ≡ true) zones 0 (λ k h. le-leb (f is.place) (f k) (is.first.least k (omega (arith, all)))))) in
    is.zone_is ∙ ap (λ k. get_or zones k 0) (sym found)

pub best-is : (parts : Parts) (plan : List ℕ) (unit : ℕ) → IsBestOf parts plan unit (length (candidate_zones parts plan unit)) (best_zone parts plan unit)
best-is parts plan unit =
    let zones = candidate_zones parts plan unit in
    let found = first-least (length (allowed_zones parts unit)) (score_at parts plan unit) in
    record {
      place = found.place;
      first = found.is;
      zone_is = sym (best-at parts plan unit (length zones) (get_or zones found.place 0) refl (record { place = found.place; first = found.is; zone_is = refl }));
    }

-- a candidate of a legal plan is allowed
pub candidate-allowed : (parts : Parts) (plan : List ℕ) (unit place : ℕ) → IsLegalPlan parts plan → unit < unit_count parts → place < length (candidate_zones parts plan unit) → IsTrue (is_allowed parts unit (get_or (candidate_zones parts plan unit) place 0))
candidate-allowed parts plan unit zero legal within h = legal.allowed unit within
candidate-allowed parts plan unit (suc place) legal within h = allowed_zones-allowed parts unit place 0 (omega arith)

pub best-allowed : (parts : Parts) (plan : List ℕ) (unit : ℕ) → IsLegalPlan parts plan → unit < unit_count parts → IsTrue (is_allowed parts unit (best_zone parts plan unit))
best-allowed parts plan unit legal within =
    let best = best-is parts plan unit in
    subst (λ zone. IsTrue (is_allowed parts unit zone)) (sym best.zone_is) (candidate-allowed parts plan unit best.place legal within best.first.in_range)

-- the score with a unit in a zone
pub score_with-is : (parts : Parts) (plan : List ℕ) (unit zone : ℕ) → score_with parts plan unit zone ≡ (score_of_plan parts (moved_plan plan unit zone)).total
unfolding score_with
score_with-is parts plan unit zone = refl

pub present-scores : (parts : Parts) (plan : List ℕ) (unit : ℕ) → score_with parts plan unit (slice_index plan unit) ≡ (score_of_plan parts plan).total
present-scores parts plan unit = score_with-is parts plan unit (slice_index plan unit) ∙ ap (λ zones. (score_of_plan parts zones).total) (set-get_or plan unit 0)

-- ---- what it does to the score

at-most-one : (b : Bool) → cond b 0 1 ≤ 1
at-most-one true = omega arith
at-most-one false = omega arith

pub change-small : (parts : Parts) (plan : List ℕ) (unit : ℕ) → change_at parts plan unit ≤ 1
change-small parts plan unit = at-most-one (best_zone parts plan unit == slice_index plan unit)

-- a unit that gets another zone lowers the score
lower-at : (parts : Parts) (plan : List ℕ) (unit place : ℕ) → best_zone parts plan unit ≡ get_or (candidate_zones parts plan unit) place 0 → IsFirstLeast (length (candidate_zones parts plan unit)) (score_at parts plan unit) place
    → score_with parts plan unit (best_zone parts plan unit) + change_at parts plan unit ≤ score_with parts plan unit (slice_index plan unit)
lower-at parts plan unit zero is first =
    let same : change_at parts plan unit ≡ 0 = cond-true (best_zone parts plan unit == slice_index plan unit) 0 1 (eq-eqb (best_zone parts plan unit) (slice_index plan unit) is) in
    omega (arith, same, ap (score_with parts plan unit) is)
lower-at parts plan unit (suc place) is first =
    let score : score_with parts plan unit (best_zone parts plan unit) ≡ score_at parts plan unit (suc place) = ap (score_with parts plan unit) is in
    omega (arith, score, first.first 0 (omega arith), at-most-one (best_zone parts plan unit == slice_index plan unit))

pub unit-lower : (parts : Parts) (plan : List ℕ) (unit : ℕ) → (score_of_plan parts (unit_improved parts plan unit)).total + change_at parts plan unit ≤ (score_of_plan parts plan).total
unit-lower parts plan unit =
    let best = best-is parts plan unit in
    subst (λ n. n + change_at parts plan unit ≤ (score_of_plan parts plan).total) (score_with-is parts plan unit (best_zone parts plan unit))
    (subst (λ n. score_with parts plan unit (best_zone parts plan unit) + change_at parts plan unit ≤ n) (present-scores parts plan unit)
    (lower-at parts plan unit best.place best.zone_is best.first))

-- ---- a unit that has its best zone

pub kept-zone : (parts : Parts) (plan : List ℕ) (unit : ℕ) → change_at parts plan unit ≡ 0 → best_zone parts plan unit ≡ slice_index plan unit
kept-zone parts plan unit none = elim (cases_eq (best_zone parts plan unit) (slice_index plan unit)) [
  | inl same ↦ same
  | inr other ↦ (
      let one : change_at parts plan unit ≡ 1 = cond-false (best_zone parts plan unit == slice_index plan unit) 0 1 (ne_eqb (best_zone parts plan unit) (slice_index plan unit) other) in
      absurd (omega (arith, none, one)))
]

pub present-kept : (parts : Parts) (plan : List ℕ) (unit : ℕ) → best_zone parts plan unit ≡ slice_index plan unit → unit_improved parts plan unit ≡ plan
present-kept parts plan unit same = ap (λ zone. moved_plan plan unit zone) same ∙ set-get_or plan unit 0

pub unit-kept : (parts : Parts) (plan : List ℕ) (unit : ℕ) → change_at parts plan unit ≡ 0 → unit_improved parts plan unit ≡ plan
unit-kept parts plan unit none = present-kept parts plan unit (kept-zone parts plan unit none)

-- no other allowed zone has a lower score
pub unit-best : (parts : Parts) (plan : List ℕ) (unit zone : ℕ) → IsValid parts → unit < unit_count parts → IsTrue (is_allowed parts unit zone) → change_at parts plan unit ≡ 0
    → (score_of_plan parts plan).total ≤ (score_of_plan parts (moved_plan plan unit zone)).total
unit-best parts plan unit zone valid within allowed none =
    let best = best-is parts plan unit in let zones = allowed_zones parts unit in let score = score_with parts plan unit in
    let place : Contains zones zone = allowed_zones-has parts unit zone (is_allowed-in_range parts unit zone valid within allowed) allowed in
    let at : get_or zones place.0 0 ≡ zone = get_or_default zones place.0 0 zone place.1 ∙ place.2 in
    let lowest : score (get_or (candidate_zones parts plan unit) best.place 0) ≤ score (get_or zones place.0 0) = best.first.least (suc place.0) (omega (arith, place.1)) in
    subst (λ n. n ≤ (score_of_plan parts (moved_plan plan unit zone)).total) (present-scores parts plan unit)
    (subst (λ n. score (slice_index plan unit) ≤ n) (score_with-is parts plan unit zone)
    (subst (λ z. score (slice_index plan unit) ≤ score z) at
    (subst (λ z. score z ≤ score (get_or zones place.0 0)) (sym best.zone_is ∙ kept-zone parts plan unit none) lowest)))

-- ---- changes of a score

no-change : (score total : ℕ) → score ≡ total → pos 0 ≡ pos score -ℤ pos total
no-change score total same = omega (arith, ints)

lower-change : (next best total : ℕ) (a b : ℤ) → a ≡ pos next -ℤ pos total → b ≡ pos best -ℤ pos total → int_lt a b ≡ true → next < best
lower-change next best total a b is_next is_best less = omega (arith, ints)

higher-change : (next best total : ℕ) (a b : ℤ) → a ≡ pos next -ℤ pos total → b ≡ pos best -ℤ pos total → int_lt a b ≡ false → best ≤ next
higher-change next best total a b is_next is_best less = omega (arith, ints)

-- ---- the search for it, one candidate after the other

-- the best of the first n candidates, and by how much it changes the score
pub record IsSoFar (parts : Parts) (plan : List ℕ) (unit n : ℕ) (best : Candidate) : Type 0 where
  pub zone : IsBestOf parts plan unit n best.zone
  pub change : best.change ≡ pos (score_with parts plan unit best.zone) -ℤ pos (score_of_plan parts plan).total

pub so_far-present : (parts : Parts) (plan : List ℕ) (unit : ℕ) (best : Candidate) → best.zone ≡ slice_index plan unit → best.change ≡ pos 0 → IsSoFar parts plan unit 1 best
so_far-present parts plan unit best zone change =
    let score : score_with parts plan unit best.zone ≡ (score_of_plan parts plan).total = ap (score_with parts plan unit) zone ∙ present-scores parts plan unit in
    record {
      zone = record { place = 0; first = first-one (score_at parts plan unit); zone_is = zone };
      change = change ∙ no-change (score_with parts plan unit best.zone) (score_of_plan parts plan).total score;
    }

pub so_far-next : (parts : Parts) (plan : List ℕ) (unit i : ℕ) (best next result : Candidate) → IsSoFar parts plan unit (i + 1) best → next.zone ≡ get_or (allowed_zones parts unit) i 0 → next.change ≡ pos (score_with parts plan unit next.zone) -ℤ pos (score_of_plan parts plan).total
    → result ≡ (if int_lt next.change best.change then next else best) → IsSoFar parts plan unit (i + 1 + 1) result
so_far-next parts plan unit i best next result so_far zone change is =
    let f = score_at parts plan unit in let place = so_far.zone.place in let total = (score_of_plan parts plan).total in
    let last : suc i ≡ i + 1 = omega arith in
    let old : best.change ≡ pos (f place) -ℤ pos total = so_far.change ∙ ap (λ z. pos (score_with parts plan unit z) -ℤ pos total) so_far.zone.zone_is in
    let new : next.change ≡ pos (f (i + 1)) -ℤ pos total = change ∙ ap (λ z. pos (score_with parts plan unit z) -ℤ pos total) zone ∙ ap (λ k. pos (f k) -ℤ pos total) last in
    elim (cases_Bool (int_lt next.change best.change)) [
      | inl less ↦ subst (IsSoFar parts plan unit (i + 1 + 1)) (sym (is ∙ ap (λ b. if b then next else best) less))
          (record {
            zone = record {
              place = i + 1;
              first = first-taken (i + 1) f place so_far.zone.first (lower-change (f (i + 1)) (f place) total next.change best.change new old less);
              zone_is = zone ∙ ap (λ k. get_or (candidate_zones parts plan unit) k 0) last;
            };
            change = change;
          })
      | inr not_less ↦ subst (IsSoFar parts plan unit (i + 1 + 1)) (sym (is ∙ ap (λ b. if b then next else best) not_less))
          (record {
            zone = record {
              place = place;
              first = first-kept (i + 1) f place so_far.zone.first (higher-change (f (i + 1)) (f place) total next.change best.change new old not_less);
              zone_is = so_far.zone.zone_is;
            };
            change = so_far.change;
          })
    ]

-- the zone that is found is the best one, and allowed
pub so_far-all : (parts : Parts) (plan : List ℕ) (unit i : ℕ) (best : Candidate) → length (allowed_zones parts unit) ≡ i → IsSoFar parts plan unit (i + 1) best → best.zone ≡ best_zone parts plan unit
so_far-all parts plan unit i best all so_far = best-at parts plan unit (i + 1) best.zone (omega (arith, all)) so_far.zone

-- by how much a judged move changes the score
pub judged-change : (parts : Parts) (plan : List ℕ) (unit zone zone' : ℕ) (judged : Judged) → IsDifference parts plan (moved_plan plan unit zone) judged → zone' ≡ zone → judged.change ≡ pos (score_with parts plan unit zone') -ℤ pos (score_of_plan parts plan).total
judged-change parts plan unit zone zone' judged differs same =
    differs.total ∙ ap (λ n. pos n -ℤ pos (score_of_plan parts plan).total) (sym (score_with-is parts plan unit zone) ∙ ap (score_with parts plan unit) (sym same))

-- each of the zones that the code goes over is allowed
pub item-allowed : (parts : Parts) (unit i d : ℕ) (zones : List ℕ) → zones ≡ allowed_zones parts unit → i < length zones → IsTrue (is_allowed parts unit (get_or zones i d))
item-allowed parts unit i d zones are within =
    subst (λ (zs : List ℕ). IsTrue (is_allowed parts unit (get_or zs i d))) (sym are) (allowed_zones-allowed parts unit i d (omega (arith, ap length are, within)))
