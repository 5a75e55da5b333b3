-- The temperatures that parameters ask for.
use Rattle.std.specs.Prelude.{◌≡◌, ℕ, nat_lt, if◌then◌else◌, List, length, ℤ, pos, Option, None, Some}
use Rattle.mz_num.specs.Places.{list_below}
use Rattle.mz_params.specs.declared.params.Params.{Params}
use Rattle.mz_model.specs.declared.parts.Parts.{Parts}
use Rattle.mz_model.specs.Move.{change_of_score, moved_plan}
use Rattle.mz_model.specs.Zones.{counts_of, free_units}
use Rattle.mz_draw.specs.declared.draw.Draw.{Draw}
use Rattle.mz_draw.specs.Draws.{draw_at}
use Rattle.mz_cool.specs.Adaptive.{adaptive_cooling}
use Rattle.mz_cool.specs.Schedule.{Cooling}
use Rattle.mz_history.specs.declared.rules.Rules.{Rules}
use Rattle.mz_history.specs.Entry.{drawn_zone}
use Rattle.mz_history.specs.Rules.{fixed_cooling}
use Rattle.mz_history.specs.Start.{starting_plan}

-- the seat whose draws sample the changes of score, and how many of its draws are tried
abbrev pub sample_seat : ℕ
sample_seat = 61

abbrev pub sample_count : ℕ
sample_count = 1000

-- by how much a draw's move changes the score of a plan
abbrev pub change_by_draw : Parts → List ℕ → Draw → ℤ
change_by_draw parts plan draw = change_of_score parts plan (moved_plan plan draw.unit (drawn_zone parts plan draw))

-- the change that the sample's draw k makes of the starting plan, and 0 where no unit is free
abbrev pub sampled_change : Parts → ℕ → ℕ → ℕ → ℕ → ℤ
sampled_change parts prop seed run k =
    (if nat_lt 0 (length (free_units parts))
    then change_by_draw parts (starting_plan parts prop seed run)
    (draw_at seed run sample_seat (free_units parts) (counts_of parts) k)
    else pos 0)

-- the changes of all samples, each tried on the starting plan
unfoldable pub sampled_changes : Parts → ℕ → ℕ → ℕ → List ℤ
sampled_changes parts prop seed run = list_below sample_count (sampled_change parts prop seed run)

-- from the start where one is given, else what fits the sampled changes
abbrev pub cooling_from : Option ℕ → Parts → Params → ℕ → ℕ → Cooling
cooling_from (Some start) parts params seed run = fixed_cooling start params
cooling_from None parts params seed run =
    adaptive_cooling (sampled_changes parts params.prop seed run) params.levels params.iterations

-- the temperatures of a run of a problem, by its parameters
abbrev pub cooling_of : Parts → Params → ℕ → ℕ → Cooling
cooling_of parts params seed run = cooling_from params.start parts params seed run

-- the rules that the parameters ask for in a run
pub record AreRulesOf (parts : Parts) (params : Params) (seed run : ℕ) (rules : Rules) : Type 0 where
  pub limit : rules.limit ≡ params.iterations
  pub prop : rules.prop ≡ params.prop
  pub schedule : rules.schedule ≡ cooling_of parts params seed run
