use Rattle.std.proofs.Common.{◌≡◌, take}
use Rattle.std.proofs.Math.ListN.{replicate}
use Rattle.std.specs.List.{flat_map}
use Rattle.mz_model.specs.Boundary.{ends_of}
use Rattle.mz_model.specs.Groups.{counts_with}
use Rattle.mz_model.specs.Parts.{unit_count}
use Rattle.mz_model.proofs.build.neighbour_counts.Given as goal

abbrev pub invariant-loop-edge : goal.invariant-loop-edge
invariant-loop-edge l = l.counts.items ≡ counts_with (replicate (unit_count l.parts) 0) (flat_map ends_of (take l.edge-index l.edges))
