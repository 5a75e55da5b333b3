use Rattle.std.proofs.Common.{◌≡◌}
use Rattle.std.specs.Prelude.{slice_index}
use Rattle.mz_num.specs.Places.{greatest_below}
use Rattle.mz_project.proofs.limits.lengths.greatest_rate.Given as goal

abbrev pub invariant-loop-place : goal.invariant-loop-place
invariant-loop-place l = l.greatest ≡ greatest_below l.place (slice_index l.rates)
