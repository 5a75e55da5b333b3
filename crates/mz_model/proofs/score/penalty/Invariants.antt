use Rattle.std.proofs.Common.{◌≡◌, ◌*◌, ◌^◌, ◌≤◌}
use Rattle.mz_num.specs.Places.{sum_below}
use Rattle.mz_model.specs.Scores.{penalty_term_of}
use Rattle.mz_model.specs.Targets.{held_of}
use Rattle.mz_model.proofs.score.penalty.Given as goal

abbrev pub invariant-loop-row : goal.invariant-loop-row
invariant-loop-row l = record { sum : l.penalty ≡ sum_below l.row (λ row. penalty_term_of l.problem row (held_of l.problem l.plan row)); small : l.penalty ≤ l.row * 10 ^ 18 }
