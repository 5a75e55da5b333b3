-- The move of one unit to a zone, and the change of a score between two plans.
use Rattle.std.specs.Prelude.{ℕ, ℤ, pos, ◌-ℤ◌, List, slice_set}
use Rattle.mz_model.specs.declared.parts.Parts.{Parts}
use Rattle.mz_model.specs.Scores.{score_of_plan}

-- the plan with the unit in the zone
abbrev pub moved_plan : List ℕ → ℕ → ℕ → List ℕ
moved_plan zones unit zone = slice_set zones unit zone

-- how much greater the score of the second plan is
abbrev pub change_of_score : Parts → List ℕ → List ℕ → ℤ
change_of_score parts before after = pos (score_of_plan parts after).total -ℤ pos (score_of_plan parts before).total
