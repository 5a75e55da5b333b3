use Rattle.std.proofs.Common.{◌≡◌, ◌*◌, ◌^◌, ◌≤◌, take}
use Rattle.std.specs.List.{sum_by}
use Rattle.mz_model.specs.Scores.{pair_term}
use Rattle.mz_model.proofs.score.pairs_boundary.Given as goal

abbrev pub invariant-loop-edge : goal.invariant-loop-edge
invariant-loop-edge l = record { sum : l.boundary ≡ sum_by (pair_term l.problem l.plan) (take l.edge-index l.edges); small : l.boundary ≤ l.edge-index * 10 ^ 18 }
