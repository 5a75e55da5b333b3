-- Passes over the units, and the improved plan.
use Rattle.std.proofs.Common.{◌≡◌, ℕ, zero, suc, ◌+◌, ◌^◌, ◌<◌, ◌≤◌, Bool, true, false, List, ◌==◌, get_or, refl, ap, sym, ◌∙◌, subst, arith, inl, inr}
use Rattle.std.specs.Int.{from_bool}
use Rattle.std.specs.List.{position_or_len, range_with_len}
use Rattle.std.proofs.lemmas.Bool.{cases_lt, eq-eqb, ne_eqb}
use Rattle.std.proofs.lemmas.List.FromFn.{get_or-range_with_len, length-range_with_len}
use Rattle.std.proofs.lemmas.List.Sums.{position_or_len_is}
use Rattle.mz_num.specs.Places.{sum_below}
use Rattle.mz_num.proofs.PlaceLaws.{at-le-sum_below, sum_below-le}
use Rattle.mz_model.specs.declared.parts.Parts.{Parts}
use Rattle.mz_model.specs.Parts.{unit_count}
use Rattle.mz_model.specs.Plans.{IsLegalPlan}
use Rattle.mz_model.specs.declared.score.Score.{Score}
use Rattle.mz_model.specs.Scores.{score_of_plan}
use Rattle.mz_model.specs.Valid.{IsValid}
use Rattle.mz_model.proofs.ScoreLaws.{score-le}
use Rattle.mz_delta.specs.declared.judged.Judged.{Judged}
use Rattle.mz_delta.specs.declared.reading.Reading.{Reading}
use Rattle.mz_delta.specs.Reading.{totals_of_plan}
use Rattle.mz_delta.specs.Rooms.{FitsJudged, FitsReading}
use Rattle.mz_delta.proofs.MoveLaws.{moved-legal}
use Rattle.mz_improve.specs.Improved.{HasNoBetterMove, IsImproved, after_pass, after_passes, after_units, best_zone, change_at, changes_below, changes_of_pass, improved_plan}
use Rattle.mz_improve.proofs.BestLaws.{best-allowed, change-small, unit-best, unit-kept, unit-lower}

-- ---- a pass

pub units-legal : (parts : Parts) (plan : List ℕ) (n : ℕ) → IsLegalPlan parts plan → n ≤ unit_count parts → IsLegalPlan parts (after_units parts plan n)
units-legal parts plan zero legal within = legal
units-legal parts plan (suc n) legal within =
    let before = units-legal parts plan n legal (omega arith) in
    moved-legal parts (after_units parts plan n) n (best_zone parts (after_units parts plan n) n) before (omega arith) (best-allowed parts (after_units parts plan n) n before (omega arith))

-- each change lowers the score
units-lower : (parts : Parts) (plan : List ℕ) (n : ℕ) → (score_of_plan parts (after_units parts plan n)).total + changes_below parts plan n ≤ (score_of_plan parts plan).total
units-lower parts plan zero = omega arith
units-lower parts plan (suc n) = omega (arith, units-lower parts plan n, unit-lower parts (after_units parts plan n) n)

pub pass-lower : (parts : Parts) (plan : List ℕ) → (score_of_plan parts (after_pass parts plan)).total + changes_of_pass parts plan ≤ (score_of_plan parts plan).total
unfolding after_pass changes_of_pass
pass-lower parts plan = units-lower parts plan (unit_count parts)

-- ---- a pass that changes nothing

none-at : (parts : Parts) (plan : List ℕ) (n unit : ℕ) → changes_below parts plan n ≡ 0 → unit < n → change_at parts (after_units parts plan unit) unit ≡ 0
none-at parts plan n unit none within = omega (arith, none, at-le-sum_below n unit (λ u. change_at parts (after_units parts plan u) u) within)

units-kept : (parts : Parts) (plan : List ℕ) (n most : ℕ) → changes_below parts plan most ≡ 0 → n ≤ most → after_units parts plan n ≡ plan
units-kept parts plan zero most none within = refl
units-kept parts plan (suc n) most none within =
    unit-kept parts (after_units parts plan n) n (none-at parts plan most n none (omega arith)) ∙ units-kept parts plan n most none (omega arith)

pub pass-kept : (parts : Parts) (plan : List ℕ) → changes_of_pass parts plan ≡ 0 → after_pass parts plan ≡ plan
unfolding after_pass changes_of_pass
pass-kept parts plan none = units-kept parts plan (unit_count parts) (unit_count parts) none (omega arith)

pub pass-best : (parts : Parts) (plan : List ℕ) → IsValid parts → changes_of_pass parts plan ≡ 0 → HasNoBetterMove parts plan
unfolding changes_of_pass
pass-best parts plan valid none unit zone within allowed =
    let still : after_units parts plan unit ≡ plan = units-kept parts plan unit (unit_count parts) none (omega arith) in
    unit-best parts plan unit zone valid within allowed (sym (ap (λ zones. change_at parts zones unit) still) ∙ none-at parts plan (unit_count parts) unit none within)

-- ---- passes

-- a plan after some passes, each of which changed something, and the number of changes
pub record IsUnderway (parts : Parts) (plan now : List ℕ) (changes : ℕ) : Type 0 where
  pub passes : ℕ
  pub changing : (n : ℕ) → n < passes → 0 < changes_of_pass parts (after_passes parts plan n)
  pub plan_is : now ≡ after_passes parts plan passes
  pub changes_are : changes ≡ sum_below passes (λ n. changes_of_pass parts (after_passes parts plan n))

pub underway-first : (parts : Parts) (plan : List ℕ) → IsUnderway parts plan plan 0
underway-first parts plan = record { passes = 0; changing = λ n h. absurd (omega arith); plan_is = refl; changes_are = refl }

pub underway-next : (parts : Parts) (plan now next : List ℕ) (changes more : ℕ) → IsUnderway parts plan now changes → next ≡ after_pass parts now → more ≡ changes_of_pass parts now → 0 < more → IsUnderway parts plan next (changes + more)
underway-next parts plan now next changes more so_far is count some =
    let n = so_far.passes in
    let last : more ≡ changes_of_pass parts (after_passes parts plan n) = count ∙ ap (changes_of_pass parts) so_far.plan_is in
    record {
      passes = suc n;
      changing = λ k h. elim (cases_lt k n) [
        | inl before ↦ so_far.changing k before
        | inr end ↦ (let at : k ≡ n = omega arith in subst (λ j. 0 < changes_of_pass parts (after_passes parts plan j)) (sym at) (subst (λ m. 0 < m) last some))
      ];
      plan_is = is ∙ ap (after_pass parts) so_far.plan_is;
      changes_are = ap (λ m. m + more) so_far.changes_are ∙ ap (λ m. sum_below n (λ j. changes_of_pass parts (after_passes parts plan j)) + m) last;
    }

pub underway-last : (parts : Parts) (plan now next : List ℕ) (changes more : ℕ) → IsUnderway parts plan now changes → next ≡ after_pass parts now → more ≡ changes_of_pass parts now → more ≡ 0 → IsImproved parts plan next changes
underway-last parts plan now next changes more so_far is count none = record {
  passes = so_far.passes;
  changing = so_far.changing;
  ended = sym (ap (changes_of_pass parts) so_far.plan_is) ∙ sym count ∙ none;
  plan_is = is ∙ ap (after_pass parts) so_far.plan_is;
  changes_are = so_far.changes_are;
}

-- ---- the improved plan

pub improved-best : (parts : Parts) (plan improved : List ℕ) (changes : ℕ) → IsValid parts → IsImproved parts plan improved changes → HasNoBetterMove parts improved
improved-best parts plan improved changes valid is =
    subst (λ zones. HasNoBetterMove parts zones) (sym (is.plan_is ∙ pass-kept parts (after_passes parts plan is.passes) is.ended))
    (pass-best parts (after_passes parts plan is.passes) valid is.ended)

not-fewer : (parts : Parts) (plan one other : List ℕ) (m n : ℕ) (a : IsImproved parts plan one m) (b : IsImproved parts plan other n) → a.passes ≤ b.passes → a.passes ≡ b.passes
not-fewer parts plan one other m n a b below = elim (cases_lt a.passes b.passes) [
  | inl fewer ↦ absurd (omega (arith, a.ended, b.changing a.passes fewer))
  | inr same ↦ omega arith
]

same-passes : (parts : Parts) (plan one other : List ℕ) (m n : ℕ) (a : IsImproved parts plan one m) (b : IsImproved parts plan other n) → a.passes ≡ b.passes
same-passes parts plan one other m n a b = elim (cases_lt a.passes b.passes) [
  | inl fewer ↦ not-fewer parts plan one other m n a b (omega arith)
  | inr more ↦ sym (not-fewer parts plan other one n m b a more)
]

-- a plan has one improved plan
pub improved-only : (parts : Parts) (plan one other : List ℕ) (m n : ℕ) → IsImproved parts plan one m → IsImproved parts plan other n → (other ≡ one) × (n ≡ m)
improved-only parts plan one other m n a b =
    let same : b.passes ≡ a.passes = same-passes parts plan other one n m b a in (
      b.plan_is ∙ ap (λ k. after_pass parts (after_passes parts plan k)) same ∙ sym a.plan_is,
      b.changes_are ∙ ap (λ k. sum_below k (λ j. changes_of_pass parts (after_passes parts plan j))) same ∙ sym a.changes_are,
    )

-- so many changing passes lower the score by as much or more
passes-lower : (parts : Parts) (plan : List ℕ) (passes : ℕ) → ((n : ℕ) → n < passes → 0 < changes_of_pass parts (after_passes parts plan n)) → (score_of_plan parts (after_passes parts plan passes)).total + passes ≤ (score_of_plan parts plan).total
passes-lower parts plan zero changing = omega arith
passes-lower parts plan (suc n) changing =
    omega (arith, passes-lower parts plan n (λ k h. changing k (omega arith)), pass-lower parts (after_passes parts plan n), changing n (omega arith))

-- the improved plan is that of the function
pub improved-is : (parts : Parts) (plan improved : List ℕ) (changes : ℕ) → IsImproved parts plan improved changes → improved ≡ improved_plan parts plan
unfolding improved_plan
improved-is parts plan improved changes is =
    let most = (score_of_plan parts plan).total + 1 in
    let within : is.passes < most = omega (arith, passes-lower parts plan is.passes is.changing) in
    let is_steady : ℕ → Bool = λ passes. changes_of_pass parts (after_passes parts plan passes) == 0 in
    let at : (k : ℕ) → k < most → get_or (range_with_len 0 most) k 0 ≡ k = λ k h. omega (arith, get_or-range_with_len 0 most k 0 h) in
    let first : position_or_len is_steady (range_with_len 0 most) ≡ is.passes =
    position_or_len_is is_steady (range_with_len 0 most) is.passes 0 (omega (arith, within, length-range_with_len 0 most))
    (λ k h. ap is_steady (at k (omega (arith, within, h))) ∙ ne_eqb (changes_of_pass parts (after_passes parts plan k)) 0 (λ e. omega (arith, e, is.changing k h)))
    (λ h. ap is_steady (at is.passes within) ∙ eq-eqb (changes_of_pass parts (after_passes parts plan is.passes)) 0 is.ended) in
    is.plan_is ∙ pass-kept parts (after_passes parts plan is.passes) is.ended ∙ ap (after_passes parts plan) (sym first)

-- ---- what the code keeps

-- a plan with its own totals and score, and rooms that fit
pub record IsStanding (parts : Parts) (plan totals : List ℕ) (score : Score) (reading : Reading) (judged : Judged) : Type 0 where
  pub legal : IsLegalPlan parts plan
  pub totals_are : totals ≡ totals_of_plan parts plan
  pub score_is : score ≡ score_of_plan parts plan
  pub reading_fits : FitsReading parts reading
  pub judged_fits : FitsJudged parts judged

-- within a pass, the first n units done
pub record IsInPass (parts : Parts) (plan : List ℕ) (n : ℕ) (now totals : List ℕ) (score : Score) (reading : Reading) (judged : Judged) (changes : ℕ) : Type 0 where
  pub standing : IsStanding parts now totals score reading judged
  pub plan_is : now ≡ after_units parts plan n
  pub changes_are : changes ≡ changes_below parts plan n

-- between passes
pub record IsOnTheWay (parts : Parts) (plan : List ℕ) (first : Score) (now totals : List ℕ) (score : Score) (reading : Reading) (judged : Judged) (changes : ℕ) : Type 0 where
  pub standing : IsStanding parts now totals score reading judged
  pub underway : IsUnderway parts plan now changes
  pub lower : score.total + changes ≤ first.total

-- ---- a pass that goes on

pub changes-few : (parts : Parts) (plan : List ℕ) (n : ℕ) → changes_below parts plan n ≤ n
changes-few parts plan n =
    let most = sum_below-le n 1 (λ unit. change_at parts (after_units parts plan unit) unit) (λ unit within. change-small parts (after_units parts plan unit) unit) in
    omega (arith, most)

pub flag-small : (changed : Bool) → from_bool changed ≤ 1
flag-small true = omega arith
flag-small false = omega arith

pub pass-plan : (parts : Parts) (plan now : List ℕ) (n : ℕ) → n ≡ unit_count parts → now ≡ after_units parts plan n → now ≡ after_pass parts plan
unfolding after_pass
pass-plan parts plan now n all is = is ∙ ap (after_units parts plan) all

pub pass-changes : (parts : Parts) (plan : List ℕ) (changes n : ℕ) → n ≡ unit_count parts → changes ≡ changes_below parts plan n → changes ≡ changes_of_pass parts plan
unfolding changes_of_pass
pass-changes parts plan changes n all are = are ∙ ap (changes_below parts plan) all

pub score-small : (parts : Parts) (plan : List ℕ) (score : Score) → IsValid parts → IsLegalPlan parts plan → score ≡ score_of_plan parts plan → score.total ≤ 10 ^ 25
score-small parts plan score valid legal is = subst (λ (s : Score). s.total ≤ 10 ^ 25) (sym is) (score-le parts plan valid legal)

-- ---- one pass more

-- what a pass leaves
pub record IsPassed (parts : Parts) (now next totals : List ℕ) (score : Score) (reading : Reading) (judged : Judged) (more : ℕ) : Type 0 where
  pub standing : IsStanding parts next totals score reading judged
  pub plan_is : next ≡ after_pass parts now
  pub more_is : more ≡ changes_of_pass parts now

pub passed : (parts : Parts) (now next totals : List ℕ) (score : Score) (reading : Reading) (judged : Judged) (more more' : ℕ) → IsLegalPlan parts next → totals ≡ totals_of_plan parts next → score ≡ score_of_plan parts next → FitsReading parts reading → FitsJudged parts judged
    → next ≡ after_pass parts now → more ≡ changes_of_pass parts now → more' ≡ more → IsPassed parts now next totals score reading judged more'
passed parts now next totals score reading judged more more' legal totals_are score_is reading_fits judged_fits plan_is more_is same = record {
  standing = record { legal = legal; totals_are = totals_are; score_is = score_is; reading_fits = reading_fits; judged_fits = judged_fits };
  plan_is = plan_is;
  more_is = same ∙ more_is;
}

pub pass-falls : (parts : Parts) (now next totals totals' : List ℕ) (score score' : Score) (reading reading' : Reading) (judged judged' : Judged) (more : ℕ) → IsStanding parts now totals score reading judged → IsPassed parts now next totals' score' reading' judged' more → score'.total + more ≤ score.total
pass-falls parts now next totals totals' score score' reading reading' judged judged' more before passed =
    let old : score.total ≡ (score_of_plan parts now).total = ap (λ (s : Score). s.total) before.score_is in
    let new : score'.total ≡ (score_of_plan parts (after_pass parts now)).total = ap (λ (s : Score). s.total) passed.standing.score_is ∙ ap (λ zones. (score_of_plan parts zones).total) passed.plan_is in
    omega (arith, old, new, passed.more_is, pass-lower parts now)

pub way-on : (parts : Parts) (plan now next totals totals' : List ℕ) (first score score' : Score) (reading reading' : Reading) (judged judged' : Judged) (changes more : ℕ) → IsOnTheWay parts plan first now totals score reading judged changes → IsPassed parts now next totals' score' reading' judged' more → 0 < more → IsOnTheWay parts plan first next totals' score' reading' judged' (changes + more)
way-on parts plan now next totals totals' first score score' reading reading' judged judged' changes more way passed some = record {
  standing = passed.standing;
  underway = underway-next parts plan now next changes more way.underway passed.plan_is passed.more_is some;
  lower = omega (arith, way.lower, pass-falls parts now next totals totals' score score' reading reading' judged judged' more way.standing passed);
}

pub way-room : (parts : Parts) (plan now next totals totals' : List ℕ) (first score score' : Score) (reading reading' : Reading) (judged judged' : Judged) (changes more : ℕ) → IsOnTheWay parts plan first now totals score reading judged changes → IsPassed parts now next totals' score' reading' judged' more → score'.total + (changes + more) ≤ first.total
way-room parts plan now next totals totals' first score score' reading reading' judged judged' changes more way passed =
    omega (arith, way.lower, pass-falls parts now next totals totals' score score' reading reading' judged judged' more way.standing passed)
