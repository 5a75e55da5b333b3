use Rattle.std.proofs.Common.{◌≡◌, ◌+◌, ◌*◌}
use Rattle.std.specs.Prelude.{slice_index}
use Rattle.mz_num.specs.Places.{greatest_below}
use Rattle.mz_project.proofs.limits.gains.greatest_fraction.Given as goal

abbrev pub invariant-loop-zone : goal.invariant-loop-zone
invariant-loop-zone l = l.greatest ≡ greatest_below l.zone (λ zone. slice_index l.fractions (zone * l.features + l.feature))
