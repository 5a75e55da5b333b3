-- Judged moves: what they say of each plan that agrees with the reading.
use Rattle.std.specs.Prelude.{◌≡◌, ℕ, ◌^◌, ◌≤◌, pos, ◌+ℤ◌, ◌-ℤ◌, unsigned_abs, IsTrue, List, map}
use Rattle.mz_num.specs.Limits.{greatest_score}
use Rattle.mz_draw.specs.declared.draw.Draw.{Draw}
use Rattle.mz_model.specs.declared.parts.Parts.{Parts}
use Rattle.mz_model.specs.Plans.{IsLegalPlan}
use Rattle.mz_model.specs.Scores.{boundary_of_plan, cost_of_plan, penalty_of_plan}
use Rattle.mz_model.specs.Targets.{held_of, touched_rows}
use Rattle.mz_model.specs.Zones.{is_allowed, step_of}
use Rattle.mz_delta.specs.declared.judged.Judged.{Judged}
use Rattle.mz_delta.specs.declared.reading.Reading.{Reading}
use Rattle.mz_model.specs.Move.{change_of_score, moved_plan}
use Rattle.mz_delta.specs.Reading.{Agrees, IsWellFormed}

-- by how much a plan's score changes where its move leads to the other plan: the differences of the two whole scores;
-- and what is held after the move for the rows that the moved unit touches
pub record IsDifference (parts : Parts) (before after : List ℕ) (judged : Judged) : Type 0 where
  pub cost : judged.cost ≡ pos (cost_of_plan parts after) -ℤ pos (cost_of_plan parts before)
  pub boundary : judged.boundary ≡ pos (boundary_of_plan parts after) -ℤ pos (boundary_of_plan parts before)
  pub penalty : judged.penalty ≡ pos (penalty_of_plan parts after) -ℤ pos (penalty_of_plan parts before)
  pub change : judged.change ≡ judged.cost +ℤ judged.boundary +ℤ judged.penalty
  pub total : judged.change ≡ change_of_score parts before after
  pub totals : judged.totals.items ≡ map (held_of parts after) (touched_rows parts judged.unit)

-- no difference is above 10^25 in absolute value
pub record IsSmallChange (judged : Judged) : Type 0 where
  pub cost : unsigned_abs judged.cost ≤ greatest_score
  pub boundary : unsigned_abs judged.boundary ≤ greatest_score
  pub penalty : unsigned_abs judged.penalty ≤ greatest_score
  pub change : unsigned_abs judged.change ≤ greatest_score

-- the move of the reading's unit to that zone, which is allowed for it, with a draw's number (its place among its
-- seat's) and random word; what it says of score and totals holds for each legal plan that agrees with the reading
pub record IsJudged (parts : Parts) (reading : Reading) (zone place random : ℕ) (judged : Judged) : Type 0 where
  pub seat : judged.seat ≡ reading.seat
  pub number : judged.number ≡ place
  pub unit : judged.unit ≡ reading.unit
  pub old : judged.old ≡ reading.zone
  pub new : judged.new ≡ zone
  pub allowed : IsTrue (is_allowed parts reading.unit zone)
  pub word : judged.word ≡ random
  pub small : IsSmallChange judged
  pub difference : (zones : List ℕ) → IsLegalPlan parts zones → Agrees parts zones reading
      → IsDifference parts zones (moved_plan zones reading.unit zone) judged

-- the reading can be judged with the draw, and this is what comes of it: the move goes to the zone that the draw gives
pub record IsRight (parts : Parts) (reading : Reading) (draw : Draw) (judged : Judged) : Type 0 where
  pub well_formed : IsWellFormed parts reading
  pub drawn : draw.unit ≡ reading.unit
  pub move : IsJudged parts reading (step_of parts draw.unit reading.zone draw.shift) draw.number draw.word judged
