use Rattle.std.proofs.Common.{◌≡◌, ◌≤◌, ◌+◌, ◌*◌, ◌^◌}
use Rattle.std.specs.Prelude.{slice_index}
use Rattle.mz_num.specs.Places.{sum_below, greatest_below}
use Rattle.mz_project.proofs.limits.costs.greatest_cost.Given as goal

abbrev pub invariant-loop-unit : goal.invariant-loop-unit
invariant-loop-unit l = record {
  sum : l.total ≡ sum_below l.unit (λ unit. greatest_below l.zones (λ zone. slice_index l.terms (unit * l.zones + zone)));
  small : l.total ≤ l.unit * 2 ^ 64;
}
