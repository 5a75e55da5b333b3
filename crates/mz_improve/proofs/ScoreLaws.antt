-- The sums of a moved plan's score.
use Rattle.std.proofs.Common.{◌≡◌, ℕ, ◌+◌, ◌<◌, ◌≤◌, ◌^◌, ℤ, pos, ◌+ℤ◌, ◌-ℤ◌, List, ap, arith}
use Rattle.std.proofs.lemmas.Int.{ints}
use Rattle.std.specs.Prelude.{IsTrue, ◌≤ℤ◌}
use Rattle.mz_model.specs.declared.parts.Parts.{Parts}
use Rattle.mz_model.specs.declared.score.Score.{Score}
use Rattle.mz_model.specs.Move.{moved_plan}
use Rattle.mz_model.specs.Parts.{unit_count}
use Rattle.mz_model.specs.Plans.{IsLegalPlan}
use Rattle.mz_model.specs.Scores.{boundary_of_plan, cost_of_plan, penalty_of_plan, score_of_plan}
use Rattle.mz_model.specs.Valid.{IsValid}
use Rattle.mz_model.specs.Zones.{is_allowed}
use Rattle.mz_model.proofs.ScoreLaws.{score-le, score_of}
use Rattle.mz_delta.specs.declared.judged.Judged.{Judged}
use Rattle.mz_delta.specs.Judged.{IsDifference}
use Rattle.mz_delta.proofs.MoveLaws.{moved-legal}

-- a sum that may take the change
pub record Takes (sum : ℕ) (change : ℤ) : Type 0 where
  pub floor : pos 0 ≤ℤ (pos sum +ℤ change)
  pub ceiling : (pos sum +ℤ change) ≤ℤ pos (10 ^ 25)

takes : (sum before after : ℕ) (change : ℤ) → sum ≡ before → before ≤ 10 ^ 25 → after ≤ 10 ^ 25 → change ≡ pos after -ℤ pos before → Takes sum change
takes sum before after change same small ends is = record { floor = omega (arith, ints); ceiling = omega (arith, ints) }

-- a part of a score is at most the score
parts-small : (a b c : ℕ) → a + b + c ≤ 10 ^ 25 → (a ≤ 10 ^ 25) × (b ≤ 10 ^ 25) × (c ≤ 10 ^ 25)
parts-small a b c small = (omega arith, omega arith, omega arith)

pub record AllTake (score : Score) (judged : Judged) : Type 0 where
  pub cost : Takes score.cost judged.cost
  pub boundary : Takes score.boundary judged.boundary
  pub penalty : Takes score.penalty judged.penalty

pub all-take : (parts : Parts) (plan : List ℕ) (score : Score) (unit zone : ℕ) (judged : Judged) → IsValid parts → IsLegalPlan parts plan → score ≡ score_of_plan parts plan → unit < unit_count parts → IsTrue (is_allowed parts unit zone) → IsDifference parts plan (moved_plan plan unit zone) judged → AllTake score judged
all-take parts plan score unit zone judged valid legal is within allowed differs =
    let after = moved_plan plan unit zone in
    let olds = parts-small (cost_of_plan parts plan) (boundary_of_plan parts plan) (penalty_of_plan parts plan) (score-le parts plan valid legal) in
    let news = parts-small (cost_of_plan parts after) (boundary_of_plan parts after) (penalty_of_plan parts after) (score-le parts after valid (moved-legal parts plan unit zone legal within allowed)) in
    record {
      cost = takes score.cost (cost_of_plan parts plan) (cost_of_plan parts after) judged.cost (ap (λ (s : Score). s.cost) is) olds.0 news.0 differs.cost;
      boundary = takes score.boundary (boundary_of_plan parts plan) (boundary_of_plan parts after) judged.boundary (ap (λ (s : Score). s.boundary) is) olds.1 news.1 differs.boundary;
      penalty = takes score.penalty (penalty_of_plan parts plan) (penalty_of_plan parts after) judged.penalty (ap (λ (s : Score). s.penalty) is) olds.2 news.2 differs.penalty;
    }

-- a sum that took its change
taken : (sum result before after : ℕ) (change : ℤ) → sum ≡ before → change ≡ pos after -ℤ pos before → pos result ≡ pos sum +ℤ change → result ≡ after
taken sum result before after change same is took = omega (arith, ints)

pub score-moved : (parts : Parts) (plan : List ℕ) (score : Score) (unit zone : ℕ) (judged : Judged) (cost boundary penalty : ℕ) → score ≡ score_of_plan parts plan → IsDifference parts plan (moved_plan plan unit zone) judged
    → pos cost ≡ pos score.cost +ℤ judged.cost → pos boundary ≡ pos score.boundary +ℤ judged.boundary → pos penalty ≡ pos score.penalty +ℤ judged.penalty
    → ◌≡◌ {A = Score} (record { cost = cost; boundary = boundary; penalty = penalty; total = cost + boundary + penalty }) (score_of_plan parts (moved_plan plan unit zone))
score-moved parts plan score unit zone judged cost boundary penalty is differs costs boundaries penalties =
    let after = moved_plan plan unit zone in
    score_of parts after cost boundary penalty
    (taken score.cost cost (cost_of_plan parts plan) (cost_of_plan parts after) judged.cost (ap (λ (s : Score). s.cost) is) differs.cost costs)
    (taken score.boundary boundary (boundary_of_plan parts plan) (boundary_of_plan parts after) judged.boundary (ap (λ (s : Score). s.boundary) is) differs.boundary boundaries)
    (taken score.penalty penalty (penalty_of_plan parts plan) (penalty_of_plan parts after) judged.penalty (ap (λ (s : Score). s.penalty) is) differs.penalty penalties)
