-- The files up to that of the zone costs.
use Rattle.std.proofs.Common.{ℕ, List, Result, Ok, Err, refl}
use Rattle.mz_shelf.specs.State.{State}
use Rattle.mz_params.specs.declared.params.Params.{Params}
use Rattle.mz_units.specs.declared.named.CostList.{CostList}
use Rattle.mz_units.specs.declared.named.ZoneList.{ZoneList}
use Rattle.mz_units.specs.declared.units.UnitList.{UnitList}
use Rattle.mz_project.specs.declared.area.Area.{Area}
use Rattle.mz_project.specs.declared.fault.ReadFault.{ReadFault}
use Rattle.mz_project.specs.Area.{area_of, area_read, available_place, costs_read, multipliers_read, read_behind_available, read_behind_costs, read_behind_units, read_behind_zones, units_read, zones_read}
use Rattle.mz_project.specs.ReadAs.{IsGiven, IsStopped, ReadAs, TakenAs}
use Rattle.mz_project.specs.Reads.{taken}
use Rattle.mz_project.proofs.ReadLemmas.{by_default, goes_on, is_taken, stops}

pub zones_stop : (params : Params) (old new : State) (fault : ReadFault) → IsStopped (zones_read params) old new fault → IsStopped (area_read params) old new fault
unfolding area_read
zones_stop params old new fault stopped = stops (zones_read params) (read_behind_zones params) old new fault stopped

-- behind the zones
zones_on : (params : Params) (zones : ZoneList) (available : ℕ) (old mid new : State) (answer : Result Area ReadFault) → IsGiven (zones_read params) old mid zones → TakenAs (available_place params zones) (Ok available)
    → ReadAs (read_behind_available params zones available) mid new answer → ReadAs (area_read params) old new answer
unfolding area_read
zones_on params zones available old mid new answer given place later =
    goes_on (zones_read params) (read_behind_zones params) zones old mid new answer given
    (goes_on (λ _. taken (available_place params zones)) (read_behind_available params zones) available mid mid new answer (is_taken (available_place params zones) mid (Ok available) place) later)

pub costs_stop : (params : Params) (zones : ZoneList) (available : ℕ) (old mid new : State) (fault : ReadFault) → IsGiven (zones_read params) old mid zones → TakenAs (available_place params zones) (Ok available)
    → IsStopped (costs_read params) mid new fault → IsStopped (area_read params) old new fault
costs_stop params zones available old mid new fault given place stopped =
    zones_on params zones available old mid new (Err fault) given place (stops (costs_read params) (read_behind_costs params zones available) mid new fault stopped)

-- behind the costs
costs_on : (params : Params) (zones : ZoneList) (available : ℕ) (costs : CostList) (old one two new : State) (answer : Result Area ReadFault) → IsGiven (zones_read params) old one zones → TakenAs (available_place params zones) (Ok available)
    → IsGiven (costs_read params) one two costs → ReadAs (read_behind_costs params zones available costs) two new answer → ReadAs (area_read params) old new answer
costs_on params zones available costs old one two new answer given place given_costs later =
    zones_on params zones available old one new answer given place (goes_on (costs_read params) (read_behind_costs params zones available) costs one two new answer given_costs later)

pub units_stop : (params : Params) (zones : ZoneList) (available : ℕ) (costs : CostList) (old one two new : State) (fault : ReadFault) → IsGiven (zones_read params) old one zones → TakenAs (available_place params zones) (Ok available)
    → IsGiven (costs_read params) one two costs → IsStopped (units_read params costs) two new fault → IsStopped (area_read params) old new fault
units_stop params zones available costs old one two new fault given place given_costs stopped =
    costs_on params zones available costs old one two new (Err fault) given place given_costs (stops (units_read params costs) (read_behind_units params zones available costs) two new fault stopped)

-- behind the units
units_on : (params : Params) (zones : ZoneList) (available : ℕ) (costs : CostList) (units : UnitList) (old one two three new : State) (answer : Result Area ReadFault) → IsGiven (zones_read params) old one zones
    → TakenAs (available_place params zones) (Ok available) → IsGiven (costs_read params) one two costs → IsGiven (units_read params costs) two three units → ReadAs (read_behind_units params zones available costs units) three new answer
    → ReadAs (area_read params) old new answer
units_on params zones available costs units old one two three new answer given place given_costs given_units later =
    costs_on params zones available costs old one two new answer given place given_costs (goes_on (units_read params costs) (read_behind_units params zones available costs) units two three new answer given_units later)

pub multipliers_stop : (params : Params) (zones : ZoneList) (available : ℕ) (costs : CostList) (units : UnitList) (old one two three new : State) (fault : ReadFault) → IsGiven (zones_read params) old one zones
    → TakenAs (available_place params zones) (Ok available) → IsGiven (costs_read params) one two costs → IsGiven (units_read params costs) two three units → IsStopped (multipliers_read params zones available costs) three new fault
    → IsStopped (area_read params) old new fault
multipliers_stop params zones available costs units old one two three new fault given place given_costs given_units stopped =
    units_on params zones available costs units old one two three new (Err fault) given place given_costs given_units
    (stops (multipliers_read params zones available costs) (λ multipliers _. taken (Ok (area_of zones available costs units multipliers))) three new fault stopped)

pub area_given : (params : Params) (zones : ZoneList) (available : ℕ) (costs : CostList) (units : UnitList) (multipliers : List ℕ) (old one two three new : State) → IsGiven (zones_read params) old one zones
    → TakenAs (available_place params zones) (Ok available) → IsGiven (costs_read params) one two costs → IsGiven (units_read params costs) two three units → IsGiven (multipliers_read params zones available costs) three new multipliers
    → IsGiven (area_read params) old new (area_of zones available costs units multipliers)
area_given params zones available costs units multipliers old one two three new given place given_costs given_units given_multipliers =
    units_on params zones available costs units old one two three new (Ok (area_of zones available costs units multipliers)) given place given_costs given_units
    (goes_on (multipliers_read params zones available costs) (λ many _. taken (Ok (area_of zones available costs units many))) multipliers three new new (Ok (area_of zones available costs units multipliers)) given_multipliers
    (by_default (area_of zones available costs units multipliers) (area_of zones available costs units multipliers) new refl))
