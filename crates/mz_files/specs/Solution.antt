-- The solution text of a plan.
use Rattle.std.specs.Prelude.{ℕ, List, ◌++◌, slice_index, codes, decimal}
use Rattle.std.specs.List.{concat}
use Rattle.mz_num.specs.Decimal.{ten4_text}
use Rattle.mz_model.specs.declared.parts.Parts.{Parts}
use Rattle.mz_model.specs.declared.score.Score.{Score}
use Rattle.mz_model.specs.Parts.{unit_count}
use Rattle.mz_num.specs.Places.{list_below}
use Rattle.mz_model.specs.Scores.{score_of_plan}
use Rattle.mz_model.specs.Targets.{shortfall_of_plan}

-- a unit's id and the id of its zone
abbrev pub unit_line : Parts → List ℕ → ℕ → List ℕ
unit_line parts plan unit =
    decimal (slice_index parts.unit_ids unit) ++ codes ","
    ++ decimal (slice_index parts.zone_ids (slice_index plan unit)) ++ codes "\n"

-- a name and a number of ten-thousandths
abbrev pub amount_line : List ℕ → ℕ → List ℕ
amount_line name amount = name ++ codes "," ++ ten4_text amount ++ codes "\n"

-- the parts of a score, and the shortfall
abbrev pub score_lines : Score → ℕ → List ℕ
score_lines score shortfall =
    amount_line (codes "score") score.total
    ++ amount_line (codes "cost") score.cost
    ++ amount_line (codes "boundary") score.boundary
    ++ amount_line (codes "penalty") score.penalty
    ++ amount_line (codes "shortfall") shortfall

-- a header, a line for each unit in order, and what the plan scores and misses
unfoldable pub solution_text : Parts → List ℕ → List ℕ
solution_text parts plan =
    codes "planning_unit,zone\n" ++ concat (list_below (unit_count parts) (unit_line parts plan))
    ++ score_lines (score_of_plan parts plan) (shortfall_of_plan parts plan)
