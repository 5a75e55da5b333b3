-- What a run leaves.
use Rattle.std.specs.Prelude.{◌≡◌, ℕ, List}
use Rattle.mz_model.specs.declared.score.Score.{Score}
use Rattle.mz_model.specs.Plans.{IsLegalPlan}
use Rattle.mz_model.specs.Scores.{score_of_plan}
use Rattle.mz_delta.specs.Reading.{totals_of_plan}
use Rattle.mz_history.specs.declared.entry.Entry.{Entry}
use Rattle.mz_history.specs.Replay.{plan_of_history}
use Rattle.mz_state.specs.Kept.{IsKept, KeptState}

-- the journal, its plan, and what the plan holds and scores
pub record IsClosed (k : KeptState) (journal : List Entry) (plan totals : List ℕ) (score : Score) : Type 0 where
  pub kept : IsKept k
  pub journal_is : journal ≡ k.journal
  pub plan_is : plan ≡ plan_of_history k.setting k.journal
  pub legal : IsLegalPlan k.setting.parts plan
  pub totals_are : totals ≡ totals_of_plan k.setting.parts plan
  pub score_is : score ≡ score_of_plan k.setting.parts plan
