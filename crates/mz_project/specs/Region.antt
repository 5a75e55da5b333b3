-- All that the files behind the parameter file give.
use Rattle.std.specs.Prelude.{ℕ, List, length, Ok}
use Rattle.mz_shelf.specs.State.{Files}
use Rattle.mz_params.specs.declared.params.Params.{Params}
use Rattle.mz_project.specs.declared.area.Area.{Area}
use Rattle.mz_project.specs.declared.boundaries.Boundaries.{Boundaries}
use Rattle.mz_project.specs.declared.region.Region.{Region}
use Rattle.mz_project.specs.declared.targets.Targets.{Targets}
use Rattle.mz_project.specs.Area.{area_read, FitsArea}
use Rattle.mz_project.specs.Boundaries.{boundaries_read, FitsBoundaries}
use Rattle.mz_project.specs.Reads.{Reads, taken, then_read}
use Rattle.mz_project.specs.Sets.{allowed_read, AreZoneSets}
use Rattle.mz_project.specs.Targets.{targets_read, FitsTargets}

-- parts that fit one another
pub record FitsRegion (region : Region) : Type 0 where
  pub area : FitsArea region.area
  pub targets : FitsTargets region.area region.targets
  pub allowed : AreZoneSets (length region.area.units.ids) (length region.area.zones.ids) region.allowed
  pub boundaries : FitsBoundaries region.area region.boundaries

abbrev pub region_of : Area → Targets → List ℕ → Boundaries → Region
region_of area targets allowed boundaries =
    record { area = area; targets = targets; allowed = allowed; boundaries = boundaries }

abbrev pub read_behind_allowed : Params → Area → Targets → List ℕ → Files → Reads Region
read_behind_allowed params area targets allowed files =
    then_read (boundaries_read params area files) (λ boundaries. taken (Ok (region_of area targets allowed boundaries)))

abbrev pub read_behind_targets : Params → Area → Targets → Files → Reads Region
read_behind_targets params area targets files =
    then_read (allowed_read params area files) (λ allowed. read_behind_allowed params area targets allowed files)

abbrev pub read_behind_area : Params → Area → Files → Reads Region
read_behind_area params area files =
    then_read (targets_read params area files) (λ targets. read_behind_targets params area targets files)

-- one file after another
unfoldable pub region_read : Params → Files → Reads Region
region_read params files = then_read (area_read params files) (λ area. read_behind_area params area files)
