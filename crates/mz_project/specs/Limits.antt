-- The quantities of a project that have a limit, and the limits in their order.
use Rattle.std.specs.Prelude.{ℕ, zero, suc, Bool, true, false, ◌||◌, nat_lt, if◌then◌else◌, List, [], ◌∷◌, ◌++◌}
use Rattle.std.specs.Prelude.{length, Option, Some, None}
use Rattle.std.specs.Prelude.{Result, Ok, Err}
use Rattle.std.specs.List.{find, list_any}
use Rattle.std.specs.Option.{option_or}
use Rattle.mz_num.specs.Limits.{greatest_quantity}
use Rattle.mz_params.specs.declared.params.Params.{Params}
use Rattle.mz_model.specs.declared.parts.Parts.{Parts}
use Rattle.mz_model.specs.declared.parts.Target.{Target}
use Rattle.mz_model.specs.Amounts.{total_of}
use Rattle.mz_bounds.specs.declared.bounds.Bounds.{Bounds}
use Rattle.mz_project.specs.declared.area.Area.{Area}
use Rattle.mz_project.specs.declared.fault.InputFault.{InputFault}
use Rattle.mz_project.specs.declared.fault.InputFault.TheVariants.{Sum, Weight}
use Rattle.mz_project.specs.declared.fault.What.{What}
use Rattle.mz_project.specs.declared.fault.What.TheVariants.{Cost, Rate, Boundary, Edge, Amount, Gain, Level}
use Rattle.mz_project.specs.declared.region.Region.{Region}
use Rattle.mz_project.specs.declared.targets.Targets.{Targets}
use Rattle.mz_project.specs.Levels.{levels_of}
use Rattle.mz_project.specs.Parts.{parts_of}
use Rattle.mz_project.specs.Rates.{rates_of, greatest_term}
use Rattle.mz_project.specs.TargetRows.{target_rows_of, id_of_row}
use Rattle.mz_project.specs.Costs.{raw_cost, greatest_cost}
use Rattle.mz_project.specs.Gains.{greatest_gain}

-- more than 10^18
abbrev pub is_above : ℕ → Bool
is_above quantity = nat_lt greatest_quantity quantity

-- the test holds at some place below n
abbrev pub some_below : ℕ → (ℕ → Bool) → Bool
some_below zero test = false
some_below (suc n) test = some_below n test || test n

-- a cost is above its limit
unfoldable pub costs_are_above : Area → Bool
costs_are_above area = is_above (raw_cost area) || is_above (greatest_cost area)

-- a rate is
unfoldable pub rates_are_above : List ℕ → Bool
rates_are_above rates = list_any is_above rates

-- the length of a pair is, or of a unit's outer boundary
unfoldable pub lengths_are_above : Bounds → Bool
lengths_are_above bounds =
    list_any (λ (edge : ℕ × ℕ × ℕ). is_above edge.2) bounds.edges || list_any is_above bounds.outer

-- such a term is
unfoldable pub terms_are_above : List ℕ → List (ℕ × ℕ × ℕ) → List ℕ → Bool
terms_are_above rates edges outer =
    list_any (λ (edge : ℕ × ℕ × ℕ). is_above (greatest_term rates edge.2)) edges
    || list_any (λ len. is_above (greatest_term rates len)) outer

-- the total of a feature is
unfoldable pub totals_are_above : Targets → Bool
totals_are_above targets =
    some_below (length targets.features.ids) (λ feature. is_above (total_of targets.amounts feature))

-- such a gain is
unfoldable pub gains_are_above : Region → Bool
gains_are_above region = list_any (λ row. is_above (greatest_gain region row)) (target_rows_of region)

-- a level is
unfoldable pub levels_are_above : Targets → Bool
levels_are_above targets = list_any is_above (levels_of targets)

-- the first row whose weight is above the limit
unfoldable pub heavy_row : Region → Option Target
heavy_row region = find (λ row. is_above row.weight) (target_rows_of region)

-- the fault of a quantity, where it is above its limit
abbrev pub fault_above : What → Bool → Option InputFault
fault_above what false = None
fault_above what true = Some (Sum what)

-- the fault of a row that is too heavy
abbrev pub fault_of_heavy : Region → Option Target → Option InputFault
fault_of_heavy region None = None
fault_of_heavy region (Some row) = Some (Weight (id_of_row region row))

-- the limits of costs and boundaries in their order, each with its fault where it is passed
abbrev pub cost_limits : Params → Region → List (Option InputFault)
cost_limits params region =
    fault_above Cost (costs_are_above region.area)
    ∷ fault_above Rate (rates_are_above (rates_of params region))
    ∷ fault_above Boundary (lengths_are_above region.boundaries.bounds)
    ∷ fault_above Edge
    (terms_are_above (rates_of params region) region.boundaries.bounds.edges region.boundaries.bounds.outer)
    ∷ []

-- the limits of amounts and target rows in their order
abbrev pub target_limits : Region → List (Option InputFault)
target_limits region =
    fault_above Amount (totals_are_above region.targets)
    ∷ fault_above Gain (gains_are_above region)
    ∷ fault_above Level (levels_are_above region.targets)
    ∷ fault_of_heavy region (heavy_row region)
    ∷ []

-- the fault of the first limit that is passed
abbrev pub first_passed : List (Option InputFault) → Option InputFault
first_passed [] = None
first_passed (limit ∷ limits) = option_or limit (first_passed limits)

-- what was made, unless a limit is passed
abbrev pub unless_passed : {X : Type 0} → Option InputFault → X → Result X InputFault
unless_passed None x = Ok x
unless_passed (Some fault) x = Err fault

-- the parts, unless a limit is passed
unfoldable pub limited_parts : Params → Region → Result Parts InputFault
limited_parts params region =
    unless_passed (first_passed (cost_limits params region ++ target_limits region)) (parts_of params region)
