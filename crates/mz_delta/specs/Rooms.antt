-- Room for the greatest unit of a problem.
use Rattle.std.specs.Prelude.{ℕ, ◌≤◌, length}
use Rattle.mz_model.specs.declared.parts.Parts.{Parts}
use Rattle.mz_model.specs.Boundary.{neighbours_of}
use Rattle.mz_model.specs.Parts.{unit_count}
use Rattle.mz_num.specs.Places.{greatest_below}
use Rattle.mz_model.specs.Targets.{touched_rows}
use Rattle.mz_delta.specs.declared.judged.Judged.{Judged}
use Rattle.mz_delta.specs.declared.reading.Reading.{Reading}

-- the greatest number of neighbours of a unit
unfoldable pub greatest_degree : Parts → ℕ
greatest_degree parts = greatest_below (unit_count parts) (λ unit. length (neighbours_of parts unit))

-- the greatest number of target rows that a unit touches
unfoldable pub greatest_touched : Parts → ℕ
greatest_touched parts = greatest_below (unit_count parts) (λ unit. length (touched_rows parts unit))

-- a reading of any unit of the problem has room in this one
pub record FitsReading (parts : Parts) (reading : Reading) : Type 0 where
  pub neighbours : greatest_degree parts ≤ reading.neighbours.room
  pub totals : greatest_touched parts ≤ reading.totals.room

-- what comes of a move of any unit of the problem has room here
pub record FitsJudged (parts : Parts) (judged : Judged) : Type 0 where
  pub totals : greatest_touched parts ≤ judged.totals.room
