-- The files of boundaries and of zone boundary costs, one after the other.
use Rattle.std.proofs.Common.{ℕ, List, Result, Ok, Err, refl}
use Rattle.mz_shelf.specs.State.{State}
use Rattle.mz_params.specs.declared.params.Params.{Params}
use Rattle.mz_bounds.specs.declared.bounds.Bounds.{Bounds}
use Rattle.mz_project.specs.declared.area.Area.{Area}
use Rattle.mz_project.specs.declared.boundaries.Boundaries.{Boundaries}
use Rattle.mz_project.specs.declared.fault.ReadFault.{ReadFault}
use Rattle.mz_project.specs.Boundaries.{boundaries_of, boundaries_read, bounds_read, read_behind_bounds, zone_bounds_read}
use Rattle.mz_project.specs.ReadAs.{IsGiven, IsStopped, ReadAs}
use Rattle.mz_project.specs.Reads.{taken}
use Rattle.mz_project.proofs.ReadLemmas.{by_default, goes_on, stops}

bounds_on : (params : Params) (area : Area) (bounds : Bounds) (old mid new : State) (answer : Result Boundaries ReadFault) → IsGiven (bounds_read params area) old mid bounds → ReadAs (read_behind_bounds params area bounds) mid new answer → ReadAs (boundaries_read params area) old new answer
unfolding boundaries_read
bounds_on params area bounds old mid new answer given later = goes_on (bounds_read params area) (read_behind_bounds params area) bounds old mid new answer given later

pub bounds_stop : (params : Params) (area : Area) (old new : State) (fault : ReadFault) → IsStopped (bounds_read params area) old new fault → IsStopped (boundaries_read params area) old new fault
unfolding boundaries_read
bounds_stop params area old new fault stopped = stops (bounds_read params area) (read_behind_bounds params area) old new fault stopped

pub zone_bounds_stop : (params : Params) (area : Area) (bounds : Bounds) (old mid new : State) (fault : ReadFault) → IsGiven (bounds_read params area) old mid bounds → IsStopped (zone_bounds_read params area) mid new fault → IsStopped (boundaries_read params area) old new fault
zone_bounds_stop params area bounds old mid new fault given stopped =
    bounds_on params area bounds old mid new (Err fault) given (stops (zone_bounds_read params area) (λ costs _. taken (Ok (boundaries_of bounds costs))) mid new fault stopped)

pub boundaries_given : (params : Params) (area : Area) (bounds : Bounds) (costs : List ℕ) (old mid new : State) → IsGiven (bounds_read params area) old mid bounds → IsGiven (zone_bounds_read params area) mid new costs
    → IsGiven (boundaries_read params area) old new (boundaries_of bounds costs)
boundaries_given params area bounds costs old mid new given given_costs =
    let whole = boundaries_of bounds costs in
    bounds_on params area bounds old mid new (Ok whole) given (goes_on (zone_bounds_read params area) (λ all _. taken (Ok (boundaries_of bounds all))) costs mid new new (Ok whole) given_costs (by_default whole whole new refl))
