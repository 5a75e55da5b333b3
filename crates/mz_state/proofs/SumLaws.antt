-- Sums and their changes.
use Rattle.std.proofs.Common.{◌≡◌, ℕ, ◌+◌, ◌≤◌, ◌^◌, ℤ, pos, ◌-ℤ◌, List, refl, sym, ap, subst, ◌∙◌, arith}
use Rattle.mz_model.specs.declared.parts.Parts.{Parts}
use Rattle.mz_model.specs.declared.score.Score.{Score}
use Rattle.mz_model.specs.Move.{moved_plan}
use Rattle.mz_model.specs.Plans.{IsLegalPlan}
use Rattle.mz_model.specs.Scores.{boundary_of_plan, cost_of_plan, penalty_of_plan, score_of_plan}
use Rattle.mz_model.specs.Valid.{IsValid}
use Rattle.mz_model.proofs.ScoreLaws.{score-le}
use Rattle.mz_delta.specs.declared.judged.Judged.{Judged}
use Rattle.mz_delta.proofs.MoveLaws.{moved-legal}
use Rattle.mz_state.specs.Standing.{IsChange, IsMoveFrom}

-- a part of a score is at most the score, and so at most 10^25
part-small : (a b c : ℕ) → a + b + c ≤ 10 ^ 25 → (a ≤ 10 ^ 25) × (b ≤ 10 ^ 25) × (c ≤ 10 ^ 25)
part-small a b c small = (omega arith, omega arith, omega arith)

pub small-sums : (parts : Parts) (plan : List ℕ) (score : Score) → IsValid parts → IsLegalPlan parts plan → score ≡ score_of_plan parts plan → (score.cost ≤ 10 ^ 25) × (score.boundary ≤ 10 ^ 25) × (score.penalty ≤ 10 ^ 25) × (score.total ≤ 10 ^ 25)
small-sums parts plan score valid legal is =
    let three = part-small (cost_of_plan parts plan) (boundary_of_plan parts plan) (penalty_of_plan parts plan) (score-le parts plan valid legal) in
    subst (λ (s : Score). (s.cost ≤ 10 ^ 25) × (s.boundary ≤ 10 ^ 25) × (s.penalty ≤ 10 ^ 25) × (s.total ≤ 10 ^ 25)) (sym is) (three.0, three.1, three.2, score-le parts plan valid legal)

change-is : (sum before after : ℕ) (change : ℤ) → sum ≡ before → after ≤ 10 ^ 25 → change ≡ pos after -ℤ pos before → IsChange sum change
change-is sum before after change same small is = record { after = after; small = small; is = is ∙ ap (λ (n : ℕ). pos after -ℤ pos n) (sym same) }

pub record AreChanges (score : Score) (judged : Judged) : Type 0 where
  pub cost : IsChange score.cost judged.cost
  pub boundary : IsChange score.boundary judged.boundary
  pub penalty : IsChange score.penalty judged.penalty
  pub total : IsChange score.total judged.change

pub changes-are : (parts : Parts) (plan : List ℕ) (score : Score) (judged : Judged) → IsValid parts → IsMoveFrom parts plan judged → score ≡ score_of_plan parts plan → AreChanges score judged
changes-are parts plan score judged valid move is =
    let after = moved_plan plan judged.unit judged.new in
    let legal = moved-legal parts plan judged.unit judged.new move.legal move.unit move.allowed in
    let small = small-sums parts after (score_of_plan parts after) valid legal refl in record {
      cost = change-is score.cost _ (score_of_plan parts after).cost judged.cost (ap (λ (s : Score). s.cost) is) small.0 move.difference.cost;
      boundary = change-is score.boundary _ (score_of_plan parts after).boundary judged.boundary (ap (λ (s : Score). s.boundary) is) small.1 move.difference.boundary;
      penalty = change-is score.penalty _ (score_of_plan parts after).penalty judged.penalty (ap (λ (s : Score). s.penalty) is) small.2 move.difference.penalty;
      total = change-is score.total _ (score_of_plan parts after).total judged.change (ap (λ (s : Score). s.total) is) small.3 move.difference.total;
    }

-- four sums that took their changes are the score after the move
pub scored : (parts : Parts) (plan : List ℕ) (score : Score) (judged : Judged) (cost boundary penalty total : ℕ) → IsMoveFrom parts plan judged → score ≡ score_of_plan parts plan
    → ((after : ℕ) → judged.cost ≡ pos after -ℤ pos score.cost → cost ≡ after) → ((after : ℕ) → judged.boundary ≡ pos after -ℤ pos score.boundary → boundary ≡ after)
    → ((after : ℕ) → judged.penalty ≡ pos after -ℤ pos score.penalty → penalty ≡ after) → ((after : ℕ) → judged.change ≡ pos after -ℤ pos score.total → total ≡ after)
    → ◌≡◌ {A = Score} (record { cost = cost; boundary = boundary; penalty = penalty; total = total }) (score_of_plan parts (moved_plan plan judged.unit judged.new))
scored parts plan score judged cost boundary penalty total move is costs bounds penalties totals =
    let after = score_of_plan parts (moved_plan plan judged.unit judged.new) in
    let c : cost ≡ after.cost = costs after.cost (move.difference.cost ∙ ap (λ (n : ℕ). pos after.cost -ℤ pos n) (sym (ap (λ (s : Score). s.cost) is))) in
    let b : boundary ≡ after.boundary = bounds after.boundary (move.difference.boundary ∙ ap (λ (n : ℕ). pos after.boundary -ℤ pos n) (sym (ap (λ (s : Score). s.boundary) is))) in
    let p : penalty ≡ after.penalty = penalties after.penalty (move.difference.penalty ∙ ap (λ (n : ℕ). pos after.penalty -ℤ pos n) (sym (ap (λ (s : Score). s.penalty) is))) in
    let t : total ≡ after.total = totals after.total (move.difference.total ∙ ap (λ (n : ℕ). pos after.total -ℤ pos n) (sym (ap (λ (s : Score). s.total) is))) in
    λ k. record { cost = c k; boundary = b k; penalty = p k; total = t k }
