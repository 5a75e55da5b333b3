-- Laws of the score: its sums, and that none is above 10^25.
use Rattle.std.proofs.Common.{◌≡◌, ℕ, ◌+◌, ◌^◌, ◌<◌, ◌≤◌, List, get_or, refl, ap, ◌∙◌, arith}
use Rattle.std.specs.Prelude.{slice_index}
use Rattle.std.specs.List.{sum_by}
use Rattle.std.proofs.lemmas.List.Sums.{sum_by-le}
use Rattle.mz_model.specs.declared.parts.Parts.{Parts}
use Rattle.mz_model.specs.declared.score.Score.{Score}
use Rattle.mz_model.specs.Boundary.{edge_term_of, IsLength}
use Rattle.mz_model.specs.Parts.{unit_count, zone_count, target_count, cost_at, outer_at}
use Rattle.mz_num.specs.Places.{sum_below}
use Rattle.mz_model.specs.Plans.{IsLegalPlan}
use Rattle.mz_model.specs.Scores.{cost_of_plan, pair_term, outer_term, boundary_of_plan, penalty_term_of, penalty_of_plan, score_of_plan}
use Rattle.mz_model.specs.Targets.{held_of}
use Rattle.mz_model.specs.Valid.{IsPair, IsValid}
use Rattle.mz_model.proofs.LimitLaws.{cost_at-le, edge_term_of-le, outer_at-length}
use Rattle.mz_num.proofs.PlaceLaws.{sum_below-le}
use Rattle.mz_model.proofs.TargetLaws.{penalty_term_of-le}
use Rattle.mz_model.proofs.ZoneLaws.{is_allowed-in_range}

-- a plan gives each unit a zone of the problem
pub plan-in_range : (parts : Parts) (zones : List ℕ) (unit : ℕ) → IsValid parts → IsLegalPlan parts zones → unit < unit_count parts → slice_index zones unit < zone_count parts
plan-in_range parts zones unit valid legal h = is_allowed-in_range parts unit (slice_index zones unit) valid h (legal.allowed unit h)

pub cost_of_plan-is : (parts : Parts) (zones : List ℕ) → cost_of_plan parts zones ≡ sum_below (unit_count parts) (λ unit. cost_at parts unit (slice_index zones unit))
unfolding cost_of_plan
cost_of_plan-is parts zones = refl

pub pair_term-is : (parts : Parts) (zones : List ℕ) (edge : ℕ × ℕ × ℕ) → pair_term parts zones edge ≡ edge_term_of parts edge.2 (slice_index zones edge.0) (slice_index zones edge.1)
unfolding pair_term
pair_term-is parts zones edge = refl

pub outer_term-is : (parts : Parts) (zones : List ℕ) (unit : ℕ) → outer_term parts zones unit ≡ edge_term_of parts (outer_at parts unit) (slice_index zones unit) parts.available
unfolding outer_term
outer_term-is parts zones unit = refl

pub boundary_of_plan-is : (parts : Parts) (zones : List ℕ) → boundary_of_plan parts zones ≡ sum_by (pair_term parts zones) parts.edges + sum_below (unit_count parts) (outer_term parts zones)
unfolding boundary_of_plan
boundary_of_plan-is parts zones = refl

pub penalty_of_plan-is : (parts : Parts) (zones : List ℕ) → penalty_of_plan parts zones ≡ sum_below (target_count parts) (λ row. penalty_term_of parts row (held_of parts zones row))
unfolding penalty_of_plan
penalty_of_plan-is parts zones = refl

pub cost_of_plan-le : (parts : Parts) (zones : List ℕ) → IsValid parts → IsLegalPlan parts zones → cost_of_plan parts zones ≤ 10 ^ 23
cost_of_plan-le parts zones valid legal =
    omega (arith, cost_of_plan-is parts zones, valid.small.units, sum_below-le (unit_count parts) (10 ^ 18) (λ unit. cost_at parts unit (slice_index zones unit)) (λ unit h. cost_at-le parts unit (slice_index zones unit) valid h (plan-in_range parts zones unit valid legal h)))

pub pair_term-le : (parts : Parts) (zones : List ℕ) (edge : ℕ × ℕ × ℕ) → IsValid parts → IsLegalPlan parts zones → IsPair (unit_count parts) edge → IsLength parts edge.2 → pair_term parts zones edge ≤ 10 ^ 18
pair_term-le parts zones edge valid legal is len =
    omega (arith, pair_term-is parts zones edge, edge_term_of-le parts edge.2 (slice_index zones edge.0) (slice_index zones edge.1) valid len (plan-in_range parts zones edge.0 valid legal (omega (arith, is.first, is.second))) (plan-in_range parts zones edge.1 valid legal is.second))

pub pair_terms-le : (parts : Parts) (zones : List ℕ) → IsValid parts → IsLegalPlan parts zones → sum_by (pair_term parts zones) parts.edges ≤ 10 ^ 24
pair_terms-le parts zones valid legal =
    omega (arith, valid.small.edges, sum_by-le (pair_term parts zones) (10 ^ 18) parts.edges (λ k d h. pair_term-le parts zones (get_or parts.edges k d) valid legal (valid.shape.pairs k d h) (valid.limits.pairs k d h)))

pub outer_term-le : (parts : Parts) (zones : List ℕ) (unit : ℕ) → IsValid parts → IsLegalPlan parts zones → unit < unit_count parts → outer_term parts zones unit ≤ 10 ^ 18
outer_term-le parts zones unit valid legal h =
    omega (arith, outer_term-is parts zones unit, edge_term_of-le parts (outer_at parts unit) (slice_index zones unit) parts.available valid (outer_at-length parts unit valid h) (plan-in_range parts zones unit valid legal h) valid.shape.available)

pub outer_terms-le : (parts : Parts) (zones : List ℕ) → IsValid parts → IsLegalPlan parts zones → sum_below (unit_count parts) (outer_term parts zones) ≤ 10 ^ 23
outer_terms-le parts zones valid legal =
    omega (arith, valid.small.units, sum_below-le (unit_count parts) (10 ^ 18) (outer_term parts zones) (λ unit h. outer_term-le parts zones unit valid legal h))

pub penalty_of_plan-le : (parts : Parts) (zones : List ℕ) → IsValid parts → penalty_of_plan parts zones ≤ 10 ^ 23
penalty_of_plan-le parts zones valid =
    omega (arith, penalty_of_plan-is parts zones, valid.small.rows, sum_below-le (target_count parts) (10 ^ 18) (λ row. penalty_term_of parts row (held_of parts zones row)) (λ row h. omega (arith, penalty_term_of-le parts row (held_of parts zones row), valid.limits.weight row h)))

-- no score is above 10^25
pub score-le : (parts : Parts) (zones : List ℕ) → IsValid parts → IsLegalPlan parts zones → cost_of_plan parts zones + boundary_of_plan parts zones + penalty_of_plan parts zones ≤ 10 ^ 25
score-le parts zones valid legal = omega (arith, cost_of_plan-le parts zones valid legal, boundary_of_plan-is parts zones, pair_terms-le parts zones valid legal, outer_terms-le parts zones valid legal, penalty_of_plan-le parts zones valid)

-- the score of its parts
pub score_of : (parts : Parts) (zones : List ℕ) (cost boundary penalty : ℕ) → cost ≡ cost_of_plan parts zones → boundary ≡ boundary_of_plan parts zones → penalty ≡ penalty_of_plan parts zones → ◌≡◌ {A = Score} (record { cost = cost; boundary = boundary; penalty = penalty; total = cost + boundary + penalty }) (score_of_plan parts zones)
score_of parts zones cost boundary penalty c b p =
    let made : ℕ → ℕ → ℕ → Score = λ x y z. record { cost = x; boundary = y; penalty = z; total = x + y + z } in
    ap (λ x. made x boundary penalty) c ∙ ap (λ y. made (cost_of_plan parts zones) y penalty) b ∙ ap (λ z. made (cost_of_plan parts zones) (boundary_of_plan parts zones) z) p
