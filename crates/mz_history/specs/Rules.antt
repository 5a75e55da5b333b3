-- What proposals are decided by.
use Rattle.std.specs.Prelude.{◌≡◌, ◌≤◌, ◌*◌, ℕ, List, max}
use Rattle.mz_num.specs.Limits.{million, most_proposals}
use Rattle.mz_cool.specs.Schedule.{Cooling}
use Rattle.mz_params.specs.declared.params.Params.{Params}
use Rattle.mz_model.specs.declared.parts.Parts.{Parts}
use Rattle.mz_model.specs.declared.score.Score.{Score}
use Rattle.mz_model.specs.Plans.{IsLegalPlan}
use Rattle.mz_model.specs.Scores.{score_of_plan}
use Rattle.mz_history.specs.declared.entry.Entry.{Entry}
use Rattle.mz_history.specs.declared.rules.Rules.{Rules}
use Rattle.mz_history.specs.Replay.{IsLegalHistory, plan_of_history, replay_of, Setting}

-- the schedule is that of the limit, and share and limit are within their ranges
pub record IsRules (rules : Rules) : Type 0 where
  pub few : rules.limit ≤ most_proposals
  pub own_limit : rules.limit ≡ rules.schedule.limit
  pub share : rules.prop ≤ million

-- the cooling from a given start, in ten-thousandths: its first temperature is in thousandths of these and at least 1,
-- and its steps are by the given factor
abbrev pub fixed_cooling : ℕ → Params → Cooling
fixed_cooling start params = record {
  first = max 1 (1000 * start);
  factor = params.cool * 1000;
  levels = params.levels;
  limit = params.iterations;
}

-- what the parameters ask for, where they give a start
pub record AreFixed (start : ℕ) (params : Params) (rules : Rules) : Type 0 where
  pub limit : rules.limit ≡ params.iterations
  pub prop : rules.prop ≡ params.prop
  pub schedule : rules.schedule ≡ fixed_cooling start params

-- what a history of a problem is played with
abbrev pub setting_with : Parts → Rules → ℕ → ℕ → Setting
setting_with parts rules seed run =
    record { parts = parts; cooling = rules.schedule; prop = rules.prop; seed = seed; run = run }

-- what the play of some turns leaves: their history's entries, its plan, and the plan's score
pub record IsReplayed (s : Setting) (turns : List ℕ) (entries : List Entry) (plan : List ℕ) (score : Score)
    : Type 0 where
  pub entries_are : entries ≡ replay_of s turns
  pub history : IsLegalHistory s entries
  pub plan_is : plan ≡ plan_of_history s entries
  pub legal : IsLegalPlan s.parts plan
  pub score_is : score ≡ score_of_plan s.parts plan
