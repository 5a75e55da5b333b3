use Rattle.std.proofs.Common.{◌≡◌, ◌+◌, ◌≤◌, map, take, drop}
use Rattle.std.specs.List.{sum_by}
use Rattle.mz_penalty.specs.Ordered.{held, cost_until}
use Rattle.mz_penalty.proofs.bases.cost_until.Given as goal

abbrev pub invariant-loop-holder : goal.invariant-loop-holder
invariant-loop-holder l = record {
  value : l.cost + cost_until l.missing (map held (drop l.holder-index l.holders)) ≡ cost_until l.level (map held l.holders);
  bound : l.cost ≤ sum_by (λ unit. unit.cost) (take l.holder-index l.holders);
}
