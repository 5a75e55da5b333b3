use Rattle.std.proofs.Common.{◌≡◌, take}
use Rattle.std.specs.Prelude.{slice_index}
use Rattle.mz_state.specs.Versions.{greatest_by}
use Rattle.mz_state.proofs.versions.greatest_of_units.Given as goal

abbrev pub invariant-loop-neighbour : goal.invariant-loop-neighbour
invariant-loop-neighbour l = l.greatest ≡ greatest_by (λ neighbour. slice_index l.versions neighbour.unit) (take l.neighbour-index l.neighbours)
