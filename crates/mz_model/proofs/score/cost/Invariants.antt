use Rattle.std.proofs.Common.{◌≡◌, ◌*◌, ◌^◌, ◌≤◌}
use Rattle.std.specs.Prelude.{slice_index}
use Rattle.mz_model.specs.Parts.{cost_at}
use Rattle.mz_num.specs.Places.{sum_below}
use Rattle.mz_model.proofs.score.cost.Given as goal

abbrev pub invariant-loop-unit : goal.invariant-loop-unit
invariant-loop-unit l = record { sum : l.cost ≡ sum_below l.unit (λ unit. cost_at l.problem unit (slice_index l.plan unit)); small : l.cost ≤ l.unit * 10 ^ 18 }
