-- The draws that are decided in a play.
use Rattle.std.proofs.Common.{◌≡◌, ℕ, List, sym, ap, subst, ◌∙◌}
use Rattle.mz_draw.specs.Draws.{draw_at}
use Rattle.mz_draw.specs.declared.draw.Draw.{Draw}
use Rattle.mz_model.specs.declared.parts.Parts.{Parts}
use Rattle.mz_model.specs.Zones.{counts_of, free_units}
use Rattle.mz_num.specs.Places.{list_below}
use Rattle.mz_model.specs.declared.score.Score.{Score}
use Rattle.mz_model.specs.Parts.{target_count}
use Rattle.mz_model.specs.Plans.{IsLegalPlan}
use Rattle.mz_model.specs.Scores.{score_of_plan}
use Rattle.mz_model.specs.Targets.{held_of}
use Rattle.mz_delta.specs.Reading.{totals_of_plan}
use Rattle.mz_history.specs.declared.rules.Rules.{Rules}
use Rattle.mz_history.specs.Core.{next_draw, seats_of}
use Rattle.mz_history.specs.Replay.{Setting, turns_of}
use Rattle.mz_state.specs.Kept.{KeptState}
use Rattle.gen_tests.specs.Play.{IsPlay}

-- the problem is that of the kept state
pub own-parts : (parts : Parts) (rules : Rules) (seed : ℕ) (k : KeptState) → IsPlay parts rules seed k → parts ≡ k.setting.parts
own-parts parts rules seed k play = ap (λ (s : Setting). s.parts) (sym play.setting)

-- the draw of the seat's next number is its next draw
pub drawn-next : (parts : Parts) (rules : Rules) (seed : ℕ) (k : KeptState) (seat own number : ℕ) (draw : Draw) → IsPlay parts rules seed k
    → number ≡ turns_of seat (seats_of k.journal) → draw ≡ draw_at seed 1 seat (free_units parts) (counts_of parts) number → own ≡ seat
    → draw ≡ next_draw k.setting.parts k.setting.seed k.setting.run k.journal own
drawn-next parts rules seed k seat own number draw play is drawn same =
    drawn ∙ ap (draw_at seed 1 seat (free_units parts) (counts_of parts)) is
    ∙ ap (λ (s : Setting). draw_at s.seed s.run seat (free_units s.parts) (counts_of s.parts) (turns_of seat (seats_of k.journal))) (sym play.setting)
    ∙ ap (λ n. next_draw k.setting.parts k.setting.seed k.setting.run k.journal n) (sym same)

-- what a play leaves is a plan of the problem, with its own totals and score
pub own-legal : (parts : Parts) (rules : Rules) (seed : ℕ) (k : KeptState) (plan : List ℕ) → IsPlay parts rules seed k → IsLegalPlan k.setting.parts plan → IsLegalPlan parts plan
own-legal parts rules seed k plan play legal = subst (λ (p : Parts). IsLegalPlan p plan) (sym (own-parts parts rules seed k play)) legal

pub own-totals : (parts : Parts) (rules : Rules) (seed : ℕ) (k : KeptState) (plan totals : List ℕ) → IsPlay parts rules seed k → totals ≡ totals_of_plan k.setting.parts plan → totals ≡ list_below (target_count parts) (held_of parts plan)
unfolding totals_of_plan
own-totals parts rules seed k plan totals play is = is ∙ ap (λ (p : Parts). totals_of_plan p plan) (sym (own-parts parts rules seed k play))

pub own-score : (parts : Parts) (rules : Rules) (seed : ℕ) (k : KeptState) (plan : List ℕ) (score : Score) → IsPlay parts rules seed k → score ≡ score_of_plan k.setting.parts plan → score ≡ score_of_plan parts plan
own-score parts rules seed k plan score play is = is ∙ ap (λ (p : Parts). score_of_plan p plan) (sym (own-parts parts rules seed k play))
