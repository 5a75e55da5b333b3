use Rattle.std.proofs.Common.{◌≡◌}
use Rattle.mz_cool.specs.Acceptance.{descent}
use Rattle.mz_cool.specs.Table.{IsTable}
use Rattle.mz_cool.proofs.stairs.heights.Given as goal

abbrev pub invariant-loop-step : goal.invariant-loop-step
invariant-loop-step l = record { height : l.height ≡ descent l._step; table : IsTable descent l._step l.heights.items }
