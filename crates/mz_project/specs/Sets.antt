-- The zones that each unit may have.
use Rattle.std.specs.Prelude.{◌≡◌, ℕ, List, length, ◌-◌, ◌^◌, replicate}
use Rattle.std.specs.List.{All}
use Rattle.mz_num.specs.ZoneSet.{IsZoneSet}
use Rattle.mz_shelf.specs.State.{Files}
use Rattle.mz_params.specs.declared.params.Params.{Params}
use Rattle.mz_units.specs.Locks.{locked_sets_of}
use Rattle.mz_units.specs.ZoneSets.{zone_sets_of}
use Rattle.mz_project.specs.declared.area.Area.{Area}
use Rattle.mz_project.specs.declared.fault.Which.TheVariants.{ZoneSets, Locks}
use Rattle.mz_project.specs.Reads.{Reads, rows_or_default, then_read}

-- a set of zones that isn't empty for each unit
pub record AreZoneSets (units zones : ℕ) (sets : List ℕ) : Type 0 where
  pub all_units : length sets ≡ units
  pub each : All (IsZoneSet zones) sets

-- without a file of zone sets each unit may have every zone
abbrev pub every_zone : ℕ → ℕ → List ℕ
every_zone units zones = replicate units (2 ^ zones - 1)

abbrev pub zone_sets_read : Params → Area → Files → Reads (List ℕ)
zone_sets_read params area files =
    rows_or_default params ZoneSets (every_zone (length area.units.ids) (length area.zones.ids))
    (zone_sets_of area.units.ids area.zones.ids) files

-- a lock leaves its unit one zone
abbrev pub locks_read : Params → Area → List ℕ → Files → Reads (List ℕ)
locks_read params area sets files =
    rows_or_default params Locks sets (locked_sets_of area.units.ids area.zones.ids sets) files

unfoldable pub allowed_read : Params → Area → Files → Reads (List ℕ)
allowed_read params area files =
    then_read (zone_sets_read params area files) (λ sets. locks_read params area sets files)
