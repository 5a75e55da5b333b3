use Rattle.std.proofs.Common.{◌≡◌, ◌≤◌, map, take}
use Rattle.std.specs.Prelude.{slice_index}
use Rattle.mz_model.specs.declared.neighbour.Neighbour.{Neighbour}
use Rattle.mz_model.specs.Boundary.{neighbours_of}
use Rattle.mz_delta.proofs.reading.read_neighbours.Given as goal

abbrev pub invariant-loop-neighbour : goal.invariant-loop-neighbour
invariant-loop-neighbour l = record { zones : l.zones.items ≡ map (λ (neighbour : Neighbour). slice_index l.plan neighbour.unit) (take l.neighbour-index (neighbours_of l.problem l.unit)); room : l.fn.zones.room ≤ l.zones.room }
