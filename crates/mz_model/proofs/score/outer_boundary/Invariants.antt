use Rattle.std.proofs.Common.{◌≡◌, ◌*◌, ◌^◌, ◌≤◌}
use Rattle.mz_num.specs.Places.{sum_below}
use Rattle.mz_model.specs.Scores.{outer_term}
use Rattle.mz_model.proofs.score.outer_boundary.Given as goal

abbrev pub invariant-loop-unit : goal.invariant-loop-unit
invariant-loop-unit l = record { sum : l.boundary ≡ sum_below l.unit (outer_term l.problem l.plan); small : l.boundary ≤ l.unit * 10 ^ 18 }
