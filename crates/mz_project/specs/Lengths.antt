-- The lengths of boundaries, as the parts of a problem have them.
use Rattle.mz_bounds.specs.declared.bounds.Bounds.{Bounds}
use Rattle.mz_project.specs.declared.limits.lengths.Lengths.{Lengths}

abbrev pub lengths_of : Bounds → Lengths
lengths_of bounds = record { edges = bounds.edges; outer = bounds.outer }
