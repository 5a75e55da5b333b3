use Rattle.std.proofs.Common.{◌≡◌}
use Rattle.mz_num.specs.Places.{list_below}
use Rattle.mz_model.specs.Targets.{held_of}
use Rattle.mz_delta.proofs.reading.totals_of.Given as goal

abbrev pub invariant-loop-row : goal.invariant-loop-row
invariant-loop-row l = l.totals.items ≡ list_below l.row (held_of l.problem l.plan)
