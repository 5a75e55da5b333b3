-- The zones, the costs, the units and what the zones multiply the costs by.
use Rattle.std.specs.Prelude.{ℕ, ◌<◌, List, length, [], ◌∷◌, codes, Option, Some, None, Result, Ok, Err}
use Rattle.mz_rows.specs.ByZone.{AreByZone}
use Rattle.mz_units.specs.Named.{IsNamedList, costs_of, zones_of}
use Rattle.mz_units.specs.UnitRows.{IsUnitList, units_of}
use Rattle.mz_shelf.specs.State.{Files}
use Rattle.mz_params.specs.declared.fault.ParamFault.TheVariants.{OutOfRange}
use Rattle.mz_params.specs.declared.key.Key.TheVariants.{AvailableZone}
use Rattle.mz_params.specs.declared.params.Params.{Params}
use Rattle.mz_tables.specs.Ids.{place_of_id}
use Rattle.mz_units.specs.declared.named.CostList.{CostList}
use Rattle.mz_units.specs.declared.named.ZoneList.{ZoneList}
use Rattle.mz_units.specs.declared.units.UnitList.{UnitList}
use Rattle.mz_units.specs.Wanted.{unit_columns}
use Rattle.mz_units.specs.ZoneCosts.{multipliers_of}
use Rattle.mz_project.specs.declared.area.Area.{Area}
use Rattle.mz_project.specs.declared.fault.InputFault.{InputFault}
use Rattle.mz_project.specs.declared.fault.InputFault.TheVariants.{Param}
use Rattle.mz_project.specs.declared.fault.Which.TheVariants.{Zones, Costs, Units, ZoneCosts}
use Rattle.mz_project.specs.Defaults.{ones_outside}
use Rattle.mz_project.specs.Reads.{Reads, rows_or_default, rows_read, taken, then_read}

-- the zones, one of them available, the costs, a cost of each kind for each unit, a multiplier for each pair
pub record FitsArea (area : Area) : Type 0 where
  pub zones : IsNamedList area.zones.ids area.zones.names
  pub available : area.available < length area.zones.ids
  pub costs : IsNamedList area.costs.ids area.costs.names
  pub units : IsUnitList (length area.costs.ids) area.units
  pub multipliers : AreByZone (length area.zones.ids) (length area.costs.ids) area.multipliers

-- without a file of zones there are an available and a reserved one
abbrev pub default_zones : ZoneList
default_zones = record { ids = 1 ∷ 2 ∷ []; names = codes "available" ∷ codes "reserved" ∷ [] }

abbrev pub zones_read : Params → Files → Reads ZoneList
zones_read params files = rows_or_default params Zones default_zones zones_of files

-- the place of the zone that AVAILABLEZONE names
abbrev pub place_of_available : Option ℕ → Result ℕ InputFault
place_of_available None = Err (Param (OutOfRange AvailableZone))
place_of_available (Some place) = Ok place

abbrev pub available_place : Params → ZoneList → Result ℕ InputFault
available_place params zones = place_of_available (place_of_id zones.ids params.available)

-- without a file of costs there is one
abbrev pub default_costs : CostList
default_costs = record { ids = 1 ∷ []; names = codes "cost" ∷ [] }

abbrev pub costs_read : Params → Files → Reads CostList
costs_read params files = rows_or_default params Costs default_costs costs_of files

abbrev pub units_read : Params → CostList → Files → Reads UnitList
units_read params costs files = rows_read files params.input_dir params.units Units (unit_columns costs.names) units_of

-- without a file of zone costs each cost counts once outside the available zone
abbrev pub multipliers_read : Params → ZoneList → ℕ → CostList → Files → Reads (List ℕ)
multipliers_read params zones available costs files =
    rows_or_default params ZoneCosts (ones_outside (length zones.ids) (length costs.ids) available)
    (multipliers_of zones.ids costs.ids) files

-- all of these, in order
abbrev pub area_of : ZoneList → ℕ → CostList → UnitList → List ℕ → Area
area_of zones available costs units multipliers =
    record { zones = zones; available = available; costs = costs; units = units; multipliers = multipliers }

abbrev pub read_behind_units : Params → ZoneList → ℕ → CostList → UnitList → Files → Reads Area
read_behind_units params zones available costs units files =
    then_read (multipliers_read params zones available costs files)
    (λ multipliers. taken (Ok (area_of zones available costs units multipliers)))

abbrev pub read_behind_costs : Params → ZoneList → ℕ → CostList → Files → Reads Area
read_behind_costs params zones available costs files =
    then_read (units_read params costs files) (λ units. read_behind_units params zones available costs units files)

abbrev pub read_behind_available : Params → ZoneList → ℕ → Files → Reads Area
read_behind_available params zones available files =
    then_read (costs_read params files) (λ costs. read_behind_costs params zones available costs files)

abbrev pub read_behind_zones : Params → ZoneList → Files → Reads Area
read_behind_zones params zones files =
    then_read (taken (available_place params zones)) (λ available. read_behind_available params zones available files)

unfoldable pub area_read : Params → Files → Reads Area
area_read params files = then_read (zones_read params files) (λ zones. read_behind_zones params zones files)
