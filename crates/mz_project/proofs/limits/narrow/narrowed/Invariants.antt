use Rattle.std.proofs.Common.{◌≡◌, ◌≤◌, ◌^◌, take}
use Rattle.std.specs.List.{All}
use Rattle.mz_project.proofs.limits.narrow.narrowed.Given as goal

abbrev pub invariant-loop-number : goal.invariant-loop-number
invariant-loop-number l = record {
  same : l.narrow.items ≡ take l.number-index l.numbers;
  small : All (λ number. number ≤ 10 ^ 18) l.narrow.items;
}
