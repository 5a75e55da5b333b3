-- All files of a project, one after another, and then its limits.
use Rattle.std.proofs.Common.{◌≡◌, ℕ, List, Result, Ok, Err, refl, sym, subst}
use Rattle.mz_shelf.specs.State.{State}
use Rattle.mz_params.specs.declared.params.Params.{Params}
use Rattle.mz_model.specs.declared.parts.Parts.{Parts}
use Rattle.mz_project.specs.declared.area.Area.{Area}
use Rattle.mz_project.specs.declared.boundaries.Boundaries.{Boundaries}
use Rattle.mz_project.specs.declared.fault.ReadFault.{ReadFault}
use Rattle.mz_project.specs.declared.fault.ReadFault.TheVariants.{NoMemory}
use Rattle.mz_project.specs.declared.region.Region.{Region}
use Rattle.mz_project.specs.declared.targets.Targets.{Targets}
use Rattle.mz_project.specs.Area.{area_read}
use Rattle.mz_project.specs.Boundaries.{boundaries_read}
use Rattle.mz_project.specs.Limits.{limited_parts}
use Rattle.mz_project.specs.Project.{project_read}
use Rattle.mz_project.specs.ReadAs.{IsGiven, IsStopped, ReadAs, TakenAs}
use Rattle.mz_project.specs.Reads.{taken}
use Rattle.mz_project.specs.Region.{read_behind_allowed, read_behind_area, read_behind_targets, region_of, region_read}
use Rattle.mz_project.specs.Sets.{allowed_read}
use Rattle.mz_project.specs.Targets.{targets_read}
use Rattle.mz_project.proofs.ReadLemmas.{by_default, ends_here, goes_on, is_taken, stops}

-- behind the area
area_on : (params : Params) (area : Area) (old one new : State) (answer : Result Region ReadFault) → IsGiven (area_read params) old one area → ReadAs (read_behind_area params area) one new answer → ReadAs (region_read params) old new answer
unfolding region_read
area_on params area old one new answer given later = goes_on (area_read params) (read_behind_area params) area old one new answer given later

pub area_stop : (params : Params) (old new : State) (fault : ReadFault) → IsStopped (area_read params) old new fault → IsStopped (region_read params) old new fault
unfolding region_read
area_stop params old new fault stopped = stops (area_read params) (read_behind_area params) old new fault stopped

pub targets_stop : (params : Params) (area : Area) (old one new : State) (fault : ReadFault) → IsGiven (area_read params) old one area → IsStopped (targets_read params area) one new fault → IsStopped (region_read params) old new fault
targets_stop params area old one new fault given stopped = area_on params area old one new (Err fault) given (stops (targets_read params area) (read_behind_targets params area) one new fault stopped)

-- behind the targets
targets_on : (params : Params) (area : Area) (targets : Targets) (old one two new : State) (answer : Result Region ReadFault) → IsGiven (area_read params) old one area → IsGiven (targets_read params area) one two targets
    → ReadAs (read_behind_targets params area targets) two new answer → ReadAs (region_read params) old new answer
targets_on params area targets old one two new answer given given_targets later =
    area_on params area old one new answer given (goes_on (targets_read params area) (read_behind_targets params area) targets one two new answer given_targets later)

pub allowed_stop : (params : Params) (area : Area) (targets : Targets) (old one two new : State) (fault : ReadFault) → IsGiven (area_read params) old one area → IsGiven (targets_read params area) one two targets
    → IsStopped (allowed_read params area) two new fault → IsStopped (region_read params) old new fault
allowed_stop params area targets old one two new fault given given_targets stopped =
    targets_on params area targets old one two new (Err fault) given given_targets (stops (allowed_read params area) (read_behind_allowed params area targets) two new fault stopped)

-- behind the allowed zones
allowed_on : (params : Params) (area : Area) (targets : Targets) (allowed : List ℕ) (old one two three new : State) (answer : Result Region ReadFault) → IsGiven (area_read params) old one area → IsGiven (targets_read params area) one two targets
    → IsGiven (allowed_read params area) two three allowed → ReadAs (read_behind_allowed params area targets allowed) three new answer → ReadAs (region_read params) old new answer
allowed_on params area targets allowed old one two three new answer given given_targets given_allowed later =
    targets_on params area targets old one two new answer given given_targets (goes_on (allowed_read params area) (read_behind_allowed params area targets) allowed two three new answer given_allowed later)

pub boundaries_stop : (params : Params) (area : Area) (targets : Targets) (allowed : List ℕ) (old one two three new : State) (fault : ReadFault) → IsGiven (area_read params) old one area → IsGiven (targets_read params area) one two targets
    → IsGiven (allowed_read params area) two three allowed → IsStopped (boundaries_read params area) three new fault → IsStopped (region_read params) old new fault
boundaries_stop params area targets allowed old one two three new fault given given_targets given_allowed stopped =
    allowed_on params area targets allowed old one two three new (Err fault) given given_targets given_allowed
    (stops (boundaries_read params area) (λ boundaries _. taken (Ok (region_of area targets allowed boundaries))) three new fault stopped)

pub region_given : (params : Params) (area : Area) (targets : Targets) (allowed : List ℕ) (boundaries : Boundaries) (old one two three new : State) → IsGiven (area_read params) old one area → IsGiven (targets_read params area) one two targets
    → IsGiven (allowed_read params area) two three allowed → IsGiven (boundaries_read params area) three new boundaries → IsGiven (region_read params) old new (region_of area targets allowed boundaries)
region_given params area targets allowed boundaries old one two three new given given_targets given_allowed given_boundaries =
    let whole = region_of area targets allowed boundaries in
    allowed_on params area targets allowed old one two three new (Ok whole) given given_targets given_allowed
    (goes_on (boundaries_read params area) (λ all _. taken (Ok (region_of area targets allowed all))) boundaries three new new (Ok whole) given_boundaries (by_default whole whole new refl))

-- the limits behind all files
pub region_stop : (params : Params) (old new : State) (fault : ReadFault) → IsStopped (region_read params) old new fault → IsStopped (project_read params) old new fault
unfolding project_read
region_stop params old new fault stopped = stops (region_read params) (λ region _. taken (limited_parts params region)) old new fault stopped

pub limits_end : (params : Params) (region : Region) (old new : State) (answer : Result Parts ReadFault) → IsGiven (region_read params) old new region → TakenAs (limited_parts params region) answer → ReadAs (project_read params) old new answer
unfolding project_read
limits_end params region old new answer given is =
    goes_on (region_read params) (λ all _. taken (limited_parts params all)) region old new new answer given (is_taken (limited_parts params region) new answer is)

pub memory_ends : (params : Params) (region : Region) (old new : State) → IsGiven (region_read params) old new region → IsStopped (project_read params) old new NoMemory
unfolding project_read
memory_ends params region old new given = ends_here (region_read params) (λ all _. taken (limited_parts params all)) region old new given

pub problem_given : (params : Params) (region : Region) (parts problem : Parts) (old new : State) → IsGiven (region_read params) old new region → TakenAs (limited_parts params region) (Ok parts) → problem ≡ parts → IsGiven (project_read params) old new problem
problem_given params region parts problem old new given is same = subst (IsGiven (project_read params) old new) (sym same) (limits_end params region old new (Ok parts) given is)
