-- Boundaries: the lengths between units and round them, and what a boundary between two zones counts.
use Rattle.std.specs.Prelude.{ℕ, List, length, ◌*◌, ◌/◌, ◌%◌, ◌==◌, if◌then◌else◌, [], replicate, Ok}
use Rattle.mz_bounds.specs.Bounds.{AreFitBounds, bounds_of}
use Rattle.mz_bounds.specs.ZoneBounds.{AreZoneBounds, zone_bounds_of}
use Rattle.mz_num.specs.Limits.{million}
use Rattle.mz_shelf.specs.State.{Files}
use Rattle.mz_params.specs.declared.params.Params.{Params}
use Rattle.mz_bounds.specs.declared.bounds.Bounds.{Bounds}
use Rattle.mz_num.specs.Places.{list_below}
use Rattle.mz_project.specs.declared.area.Area.{Area}
use Rattle.mz_project.specs.declared.boundaries.Boundaries.{Boundaries}
use Rattle.mz_project.specs.declared.fault.Which.TheVariants.{Bounds as BoundFile, ZoneBounds}
use Rattle.mz_project.specs.Reads.{Reads, rows_or_default, taken, then_read}

-- lengths between and round units of the area, and a cost for each two zones
pub record FitsBoundaries (area : Area) (boundaries : Boundaries) : Type 0 where
  pub bounds : AreFitBounds (length area.units.ids) boundaries.bounds
  pub costs : AreZoneBounds (length area.zones.ids) boundaries.costs

-- without a file of boundaries no unit has any
abbrev pub no_bounds : ℕ → Bounds
no_bounds units = record { edges = []; outer = replicate units 0 }

abbrev pub bounds_read : Params → Area → Files → Reads Bounds
bounds_read params area files =
    rows_or_default params BoundFile (no_bounds (length area.units.ids)) (bounds_of area.units.ids) files

-- without a file of zone boundary costs a boundary between different zones counts once, and within one zone not
abbrev pub default_boundary_cost : ℕ → ℕ → ℕ
default_boundary_cost k l = if k == l then 0 else million

-- the same of each two zones, at `zone * zones + zone`
unfoldable pub default_boundary_costs : ℕ → List ℕ
default_boundary_costs zones =
    list_below (zones * zones) (λ place. default_boundary_cost (place / zones) (place % zones))

abbrev pub zone_bounds_read : Params → Area → Files → Reads (List ℕ)
zone_bounds_read params area files =
    rows_or_default params ZoneBounds (default_boundary_costs (length area.zones.ids))
    (zone_bounds_of area.zones.ids) files

-- both of these, in order
abbrev pub boundaries_of : Bounds → List ℕ → Boundaries
boundaries_of bounds costs = record { bounds = bounds; costs = costs }

abbrev pub read_behind_bounds : Params → Area → Bounds → Files → Reads Boundaries
read_behind_bounds params area bounds files =
    then_read (zone_bounds_read params area files) (λ costs. taken (Ok (boundaries_of bounds costs)))

unfoldable pub boundaries_read : Params → Area → Files → Reads Boundaries
boundaries_read params area files =
    then_read (bounds_read params area files) (λ bounds. read_behind_bounds params area bounds files)
