use Rattle.std.proofs.Common.{◌≡◌, length}
use Rattle.mz_model.specs.Targets.{touched_rows}
use Rattle.mz_num.specs.Places.{greatest_below}
use Rattle.mz_delta.proofs.rooms.greatest_touched.Given as goal

abbrev pub invariant-loop-unit : goal.invariant-loop-unit
invariant-loop-unit l = l.greatest ≡ greatest_below l.unit (λ unit. length (touched_rows l.problem unit))
