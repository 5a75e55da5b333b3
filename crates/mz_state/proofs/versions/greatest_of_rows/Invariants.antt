use Rattle.std.proofs.Common.{◌≡◌, take}
use Rattle.std.specs.Prelude.{slice_index}
use Rattle.mz_state.specs.Versions.{greatest_by}
use Rattle.mz_state.proofs.versions.greatest_of_rows.Given as goal

abbrev pub invariant-loop-touch : goal.invariant-loop-touch
invariant-loop-touch l = l.greatest ≡ greatest_by (λ touch. slice_index l.versions touch.row) (take l.touch-index l.touches)
