use Rattle.std.proofs.Common.{◌≡◌}
use Rattle.mz_model.specs.Parts.{fraction_at}
use Rattle.mz_num.specs.Places.{greatest_below}
use Rattle.mz_model.proofs.build.greatest_part.Given as goal

abbrev pub invariant-loop-zone : goal.invariant-loop-zone
invariant-loop-zone l = l.greatest ≡ greatest_below l.zone (λ zone. fraction_at l.parts zone l.target.feature)
