-- Laws of target rows: gains, shortfalls and penalties.
use Rattle.std.proofs.Common.{◌≡◌, ℕ, ◌+◌, ◌-◌, ◌*◌, ◌^◌, ◌<◌, ◌≤◌, true, false, cond, List, length, get_or, take, Option, None, Some, refl, ap, sym, ◌∙◌, inl, inr, arith, ◌==◌}
use Rattle.std.specs.Prelude.{slice_index, nat_lt}
use Rattle.std.specs.List.{sum_by}
use Rattle.std.proofs.lemmas.Bool.{cases_lt, cond-true, cond-false, lt-ltb, le-ltb}
use Rattle.std.proofs.lemmas.List.Elements.{All-weaker}
use Rattle.std.proofs.lemmas.List.Sums.{get_or-le-sum_by, sum_by_more, sum_by_more_le}
use Rattle.mz_num.specs.Round.{round}
use Rattle.mz_num.proofs.RoundLaws.{round-le}
use Rattle.mz_model.specs.declared.parts.Parts.{Parts}
use Rattle.mz_model.specs.declared.parts.Target.{Target}
use Rattle.mz_model.specs.Amounts.{holders_of}
use Rattle.mz_model.specs.Parts.{unit_count, zone_count, feature_count, target_count, fraction_at, target_at}
use Rattle.mz_num.specs.Places.{sum_below, greatest_below}
use Rattle.mz_model.specs.Scores.{penalty_term_of}
use Rattle.mz_model.specs.Targets.{counted, gain_from, amount_for, gain_of, held_of, shortfall_of}
use Rattle.mz_model.specs.Valid.{IsValid, IsAmount}
use Rattle.mz_model.proofs.AmountLaws.{sum_by-holders_of}
use Rattle.mz_num.proofs.PlaceLaws.{sum_below-mono, at-le-greatest_below}
use Rattle.mz_model.proofs.Products.{part-le}

-- ---- gains

pub gain_of-is : (parts : Parts) (row unit zone : ℕ) → gain_of parts row unit zone ≡ gain_from parts row (amount_for parts row unit) zone
unfolding gain_of
gain_of-is parts row unit zone = refl

pub gain_from-is : (parts : Parts) (t amount zone : ℕ) (row : Target) → row ≡ target_at parts t → gain_from parts t amount zone ≡ counted row.zone amount (fraction_at parts zone row.feature) zone
unfolding gain_from
gain_from-is parts t amount zone row e = ap (λ (r : Target). counted r.zone amount (fraction_at parts zone r.feature) zone) (sym e)

-- the gain of an overall row
pub gain_from-overall : (parts : Parts) (t amount zone : ℕ) (row : Target) → row ≡ target_at parts t → row.zone ≡ None → gain_from parts t amount zone ≡ round (amount * fraction_at parts zone row.feature) 1000000
gain_from-overall parts t amount zone row e none = gain_from-is parts t amount zone row e ∙ ap (λ o. counted o amount (fraction_at parts zone row.feature) zone) none

-- the gain of a zone row
pub gain_from-own : (parts : Parts) (t amount zone own : ℕ) (row : Target) → row ≡ target_at parts t → row.zone ≡ Some own → gain_from parts t amount zone ≡ cond (zone == own) amount 0
gain_from-own parts t amount zone own row e some_zone = gain_from-is parts t amount zone row e ∙ ap (λ o. counted o amount (fraction_at parts zone row.feature) zone) some_zone

counted-nothing : (o : Option ℕ) (fraction zone : ℕ) → counted o 0 fraction zone ≡ 0
unfolding round
counted-nothing None fraction zone = omega arith
counted-nothing (Some own) fraction zone = elim (zone == own) as (λ b. ◌≡◌ {A = ℕ} (cond b 0 0) 0) [ true ↦ refl | false ↦ refl ]

-- no amount gains nothing
pub gain_from-nothing : (parts : Parts) (t zone : ℕ) → gain_from parts t 0 zone ≡ 0
gain_from-nothing parts t zone = gain_from-is parts t 0 zone (target_at parts t) refl ∙ counted-nothing (target_at parts t).zone (fraction_at parts zone (target_at parts t).feature) zone

-- ---- what a plan holds

-- what is held is the sum over the units that hold the feature
pub held_of-holders : (parts : Parts) (zones : List ℕ) (t : ℕ) → IsValid parts → sum_by (λ (holder : ℕ × ℕ). gain_from parts t holder.1 (slice_index zones holder.0)) (holders_of parts.amounts (target_at parts t).feature) ≡ held_of parts zones t
unfolding held_of gain_of amount_for
held_of-holders parts zones t valid =
    sum_by-holders_of parts.amounts (target_at parts t).feature (unit_count parts) (λ unit amount. gain_from parts t amount (slice_index zones unit)) (λ unit. gain_from-nothing parts t (slice_index zones unit)) valid.shape.amounts_in_order
    (All-weaker (IsAmount (unit_count parts) (feature_count parts)) (λ row. row.0 < unit_count parts) (λ row is. is.unit) parts.amounts valid.shape.amounts)

-- where each unit is in a zone of the problem, what is held is within the limit
pub held_of-le : (parts : Parts) (zones : List ℕ) (t : ℕ) → IsValid parts → t < target_count parts → ((unit : ℕ) → unit < unit_count parts → slice_index zones unit < zone_count parts) → held_of parts zones t ≤ 10 ^ 18
unfolding held_of
held_of-le parts zones t valid h inside =
    let below : sum_below (unit_count parts) (λ unit. gain_of parts t unit (slice_index zones unit)) ≤ sum_below (unit_count parts) (λ unit. greatest_below (zone_count parts) (gain_of parts t unit)) =
    sum_below-mono (unit_count parts) (λ unit. gain_of parts t unit (slice_index zones unit)) (λ unit. greatest_below (zone_count parts) (gain_of parts t unit)) (λ unit i. at-le-greatest_below (zone_count parts) (slice_index zones unit) (gain_of parts t unit) (inside unit i)) in
    omega (arith, valid.limits.gain t h)

-- ---- penalties

pub shortfall_of-is : (parts : Parts) (t held : ℕ) (row : Target) → row ≡ target_at parts t → shortfall_of parts t held ≡ row.level - held
unfolding shortfall_of
shortfall_of-is parts t held row e = ap (λ (r : Target). r.level - held) (sym e)

-- a row that misses nothing has no penalty
pub penalty_term_of-met : (parts : Parts) (t held : ℕ) → shortfall_of parts t held ≡ 0 → penalty_term_of parts t held ≡ 0
unfolding penalty_term_of
penalty_term_of-met parts t held met =
    let level : ℕ = (target_at parts t).level in
    let term : ℕ = round ((target_at parts t).weight * shortfall_of parts t held) level in
    elim (cases_lt 0 level) [
      | inl some_level ↦ (
          let nothing : (target_at parts t).weight * shortfall_of parts t held ≤ 0 * level = omega (arith, ap (λ n. (target_at parts t).weight * n) met) in
          let gone : term ≤ 0 = round-le ((target_at parts t).weight * shortfall_of parts t held) level 0 some_level nothing in
          let zero_term : term ≡ 0 = omega arith in
          cond-true (nat_lt 0 level) term 0 (lt-ltb 0 level some_level) ∙ zero_term)
      | inr none ↦ cond-false (nat_lt 0 level) term 0 (le-ltb 0 level none)
    ]

-- the penalty of a row that has a level
pub penalty_term_of-part : (parts : Parts) (t held : ℕ) (row : Target) → row ≡ target_at parts t → 0 < row.level → penalty_term_of parts t held ≡ round (row.weight * shortfall_of parts t held) row.level
unfolding penalty_term_of
penalty_term_of-part parts t held row e some_level =
    ap (λ (r : Target). cond (nat_lt 0 r.level) (round (r.weight * shortfall_of parts t held) r.level) 0) (sym e)
    ∙ cond-true (nat_lt 0 row.level) (round (row.weight * shortfall_of parts t held) row.level) 0 (lt-ltb 0 row.level some_level)

-- no penalty is above its row's weight
pub penalty_term_of-le : (parts : Parts) (t held : ℕ) → penalty_term_of parts t held ≤ (target_at parts t).weight
penalty_term_of-le parts t held =
    elim (cases_lt 0 (target_at parts t).level) [
      | inl some_level ↦ (
          let missing : shortfall_of parts t held ≤ (target_at parts t).level = omega (arith, shortfall_of-is parts t held (target_at parts t) refl) in
          omega (arith, penalty_term_of-part parts t held (target_at parts t) refl some_level, part-le (target_at parts t).weight (shortfall_of parts t held) (target_at parts t).level some_level missing))
      | inr none ↦ omega (arith, penalty_term_of-met parts t held (let nothing : shortfall_of parts t held ≡ 0 = omega (arith, shortfall_of-is parts t held (target_at parts t) refl) in nothing))
    ]

-- ---- as what is held is summed

-- what the units that hold the feature gain in their zones
abbrev pub gains_of : Parts → List ℕ → ℕ → List (ℕ × ℕ) → ℕ
gains_of parts zones t holders = sum_by (λ (holder : ℕ × ℕ). gain_from parts t holder.1 (slice_index zones holder.0)) holders

pub gains_of-whole : (parts : Parts) (zones : List ℕ) (t : ℕ) (holders : List (ℕ × ℕ)) (row : Target) → IsValid parts → row ≡ target_at parts t → holders ≡ holders_of parts.amounts row.feature → gains_of parts zones t holders ≡ held_of parts zones t
gains_of-whole parts zones t holders row valid e f = ap (gains_of parts zones t) (f ∙ ap (λ (r : Target). holders_of parts.amounts r.feature) e) ∙ held_of-holders parts zones t valid

-- one gain more
pub record IsGain (parts : Parts) (zones : List ℕ) (t : ℕ) (holders : List (ℕ × ℕ)) (i gain : ℕ) : Type 0 where
  pub small : gain ≤ 10 ^ 18
  pub sum : gains_of parts zones t (take i holders) + gain ≡ gains_of parts zones t (take (i + 1) holders)
  pub within : gains_of parts zones t (take i holders) + gain ≤ 10 ^ 18

pub gain-at : (parts : Parts) (zones : List ℕ) (t i zone : ℕ) (holders : List (ℕ × ℕ)) → i < length holders → gains_of parts zones t holders ≤ 10 ^ 18 → zone ≡ slice_index zones (get_or holders i (0, 0)).0 → IsGain parts zones t holders i (gain_from parts t (get_or holders i (0, 0)).1 zone)
gain-at parts zones t i zone holders h within e =
    let term : ℕ × ℕ → ℕ = λ (holder : ℕ × ℕ). gain_from parts t holder.1 (slice_index zones holder.0) in
    let gain : gain_from parts t (get_or holders i (0, 0)).1 zone ≡ term (get_or holders i (0, 0)) = ap (gain_from parts t (get_or holders i (0, 0)).1) e in
    let one : term (get_or holders i (0, 0)) ≤ gains_of parts zones t holders = get_or-le-sum_by term holders i (0, 0) h in
    let more : gains_of parts zones t (take i holders) + term (get_or holders i (0, 0)) ≤ gains_of parts zones t holders = sum_by_more_le term holders i (0, 0) h in
    let next : gains_of parts zones t (take (i + 1) holders) ≡ gains_of parts zones t (take i holders) + term (get_or holders i (0, 0)) = sum_by_more term holders i (0, 0) h in
    record { small = omega arith; sum = omega arith; within = omega arith }
