use Rattle.std.proofs.Common.{◌≡◌, ◌≤◌, ◌*◌, ◌^◌, take}
use Rattle.std.specs.List.{sum}
use Rattle.mz_project.proofs.limits.costs.total.Given as goal

abbrev pub invariant-loop-number : goal.invariant-loop-number
invariant-loop-number l = record {
  sum : l.total ≡ sum (take l.number-index l.numbers);
  small : l.total ≤ l.number-index * 2 ^ 64;
}
