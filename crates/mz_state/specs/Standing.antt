-- Where a run stands, and the moves that can be made there.
use Rattle.std.specs.Prelude.{◌≡◌, ◌<◌, ◌≤◌, ℕ, ℤ, pos, ◌-ℤ◌, IsTrue, List, slice_index}
use Rattle.mz_num.specs.Limits.{greatest_score}
use Rattle.mz_model.specs.declared.parts.Parts.{Parts}
use Rattle.mz_model.specs.declared.score.Score.{Score}
use Rattle.mz_model.specs.Move.{moved_plan}
use Rattle.mz_model.specs.Parts.{unit_count}
use Rattle.mz_model.specs.Plans.{IsLegalPlan}
use Rattle.mz_model.specs.Scores.{score_of_plan}
use Rattle.mz_model.specs.Zones.{is_allowed}
use Rattle.mz_delta.specs.declared.judged.Judged.{Judged}
use Rattle.mz_delta.specs.Judged.{IsDifference}
use Rattle.mz_delta.specs.Reading.{totals_of_plan}

-- the plan is legal, and totals and score are its own
pub record IsPosition (parts : Parts) (plan totals : List ℕ) (score : Score) : Type 0 where
  pub legal : IsLegalPlan parts plan
  pub totals_are : totals ≡ totals_of_plan parts plan
  pub score_is : score ≡ score_of_plan parts plan

-- what was judged is a move of a legal plan to an allowed zone, with exactly its differences and totals
pub record IsMoveFrom (parts : Parts) (plan : List ℕ) (judged : Judged) : Type 0 where
  pub legal : IsLegalPlan parts plan
  pub unit : judged.unit < unit_count parts
  pub from : judged.old ≡ slice_index plan judged.unit
  pub allowed : IsTrue (is_allowed parts judged.unit judged.new)
  pub difference : IsDifference parts plan (moved_plan plan judged.unit judged.new) judged

-- the change leads from a sum to another, which is at most 10^25
pub record IsChange (sum : ℕ) (change : ℤ) : Type 0 where
  pub after : ℕ
  pub small : after ≤ greatest_score
  pub is : change ≡ pos after -ℤ pos sum
