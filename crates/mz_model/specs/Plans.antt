-- Plans: the place of each unit's zone.
use Rattle.std.specs.Prelude.{◌≡◌, ℕ, ◌<◌, ◌≢◌, IsTrue, IsFalse, List, length, slice_index, Result, Ok, Err}
use Rattle.mz_model.specs.declared.parts.Parts.{Parts}
use Rattle.mz_model.specs.declared.plan.PlanFault.{PlanFault}
use Rattle.mz_model.specs.declared.plan.PlanFault.TheVariants.{Length, NotAllowed, NoMemory}
use Rattle.mz_model.specs.Parts.{unit_count}
use Rattle.mz_model.specs.Zones.{is_allowed}

-- each unit has one of its allowed zones
pub record IsLegalPlan (parts : Parts) (zones : List ℕ) : Type 0 where
  pub whole : length zones ≡ unit_count parts
  pub allowed : (unit : ℕ) → unit < unit_count parts → IsTrue (is_allowed parts unit (slice_index zones unit))

-- the first unit whose zone isn't one of its allowed zones, where there is a zone for each unit
pub record IsFirstNotAllowed (parts : Parts) (zones : List ℕ) (unit : ℕ) : Type 0 where
  pub whole : length zones ≡ unit_count parts
  pub in_range : unit < unit_count parts
  pub refused : IsFalse (is_allowed parts unit (slice_index zones unit))
  pub before : (k : ℕ) → k < unit → IsTrue (is_allowed parts k (slice_index zones k))

-- the plan is the list, and the list is a legal plan
pub record IsAccepted (parts : Parts) (zones plan : List ℕ) : Type 0 where
  pub same : plan ≡ zones
  pub legal : IsLegalPlan parts plan

-- what comes of a list of zones: a plan where it is legal, else its fault; of want of memory nothing is said
abbrev pub Judges : Parts → List ℕ → Result (List ℕ) PlanFault → Type 0
Judges parts zones (Ok plan) = IsAccepted parts zones plan
Judges parts zones (Err Length) = length zones ≢ unit_count parts
Judges parts zones (Err (NotAllowed unit)) = IsFirstNotAllowed parts zones unit
Judges parts zones (Err NoMemory) = Unit {0}
