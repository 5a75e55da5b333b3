-- The limits one after another: which fault ends them, and what is left where none does.
use Rattle.std.proofs.Common.{◌≡◌, ℕ, Bool, true, false, List, [], ◌∷◌, ◌++◌, Option, Some, None, Result, Ok, Err}
use Rattle.std.proofs.Common.{refl, sym, ap, subst, ◌∙◌}
use Rattle.std.specs.Option.{option_or}
use Rattle.mz_params.specs.declared.params.Params.{Params}
use Rattle.mz_model.specs.declared.parts.Parts.{Parts}
use Rattle.mz_model.specs.declared.parts.Target.{Target}
use Rattle.mz_model.specs.Valid.{IsValid}
use Rattle.mz_project.specs.declared.fault.InputFault.{InputFault}
use Rattle.mz_project.specs.declared.fault.InputFault.TheVariants.{TooLong, Param, Table, Row, Sum, Weight}
use Rattle.mz_project.specs.declared.fault.ReadFault.{ReadFault}
use Rattle.mz_project.specs.declared.fault.ReadFault.TheVariants.{Shelf, Absent, Input, NoMemory}
use Rattle.mz_project.specs.declared.fault.What.{What}
use Rattle.mz_project.specs.declared.fault.What.TheVariants.{Cost, Rate, Boundary, Edge, Amount, Gain, Level}
use Rattle.mz_project.specs.declared.limits.lengths.Lengths.{Lengths}
use Rattle.mz_project.specs.declared.numbers.Numbers.{Numbers}
use Rattle.mz_project.specs.declared.region.Region.{Region}
use Rattle.mz_project.specs.Lengths.{lengths_of}
use Rattle.mz_project.specs.Limited.{IsFound, Limited, Weighed}
use Rattle.mz_project.specs.Limits.{cost_limits, fault_above, fault_of_heavy, first_passed, heavy_row, limited_parts}
use Rattle.mz_project.specs.Limits.{costs_are_above, rates_are_above, lengths_are_above, terms_are_above}
use Rattle.mz_project.specs.Limits.{target_limits, totals_are_above, gains_are_above, levels_are_above, unless_passed}
use Rattle.mz_project.specs.Numbers.{AreCostsWithin, AreNumbers, AreTargetsWithin, parts_with}
use Rattle.mz_project.specs.Parts.{parts_of}
use Rattle.mz_project.specs.Rates.{rates_of}
use Rattle.mz_project.specs.ReadAs.{TakenAs}
use Rattle.mz_project.specs.Region.{FitsRegion}
use Rattle.mz_project.specs.TargetRows.{id_of_row}
use Rattle.mz_project.proofs.PartLemmas.{parts-valid}

-- a limit that is passed ends the search
passed-here : (X : Type 0) (what : What) (above : Bool) (x : X) (fault : ReadFault) (later : Option InputFault)
    → Limited {X = X} what above x (Err fault) → IsFound (option_or (fault_above what above) later) fault
passed-here X what above x (Shelf name) later h = absurd h
passed-here X what above x (Absent name) later h = absurd h
passed-here X what above x (Input (TooLong which)) later h = absurd h
passed-here X what above x (Input (Param fault)) later h = absurd h
passed-here X what above x (Input (Table which fault)) later h = absurd h
passed-here X what above x (Input (Row which fault)) later h = absurd h
passed-here X what above x (Input (Sum other)) later h =
    ap (λ (b : Bool). option_or (fault_above what b) later) h.0 ∙ ap (λ (w : What). Some (Sum w)) (sym h.1)
passed-here X what above x (Input (Weight id)) later h = absurd h
passed-here X what above x NoMemory later h = tt

-- one that isn't passed is skipped
passed-later : (what : What) (above : Bool) (fault : ReadFault) (later : Option InputFault)
    → above ≡ false → IsFound later fault → IsFound (option_or (fault_above what above) later) fault
passed-later what above fault later within h =
    subst (λ (b : Bool). IsFound (option_or (fault_above what b) later) fault) (sym within) h

none-passed : (what : What) (above : Bool) (later : Option InputFault)
    → above ≡ false → later ≡ None → option_or (fault_above what above) later ≡ None
none-passed what above later within none = ap (λ (b : Bool). option_or (fault_above what b) later) within ∙ none

-- the limits of costs and boundaries
pub costs_end : (X : Type 0) (params : Params) (region : Region) (x : X) (fault : ReadFault)
    → Limited {X = X} Cost (costs_are_above region.area) x (Err fault)
    → IsFound (first_passed (cost_limits params region)) fault
costs_end X params region x fault h = passed-here X Cost (costs_are_above region.area) x fault _ h

pub rates_end : (X : Type 0) (params : Params) (region : Region) (x : X) (fault : ReadFault)
    → costs_are_above region.area ≡ false → Limited {X = X} Rate (rates_are_above (rates_of params region)) x (Err fault)
    → IsFound (first_passed (cost_limits params region)) fault
rates_end X params region x fault costs h =
    passed-later Cost (costs_are_above region.area) fault _ costs
    (passed-here X Rate (rates_are_above (rates_of params region)) x fault _ h)

pub lengths_end : (X : Type 0) (params : Params) (region : Region) (x : X) (fault : ReadFault)
    → costs_are_above region.area ≡ false → rates_are_above (rates_of params region) ≡ false
    → Limited {X = X} Boundary (lengths_are_above region.boundaries.bounds) x (Err fault)
    → IsFound (first_passed (cost_limits params region)) fault
lengths_end X params region x fault costs rates h =
    passed-later Cost (costs_are_above region.area) fault _ costs
    (passed-later Rate (rates_are_above (rates_of params region)) fault _ rates
    (passed-here X Boundary (lengths_are_above region.boundaries.bounds) x fault _ h))

-- a term is above its limit
abbrev pub are_terms_above : Params → Region → Bool
are_terms_above params region =
    terms_are_above (rates_of params region) region.boundaries.bounds.edges region.boundaries.bounds.outer

-- the terms of these lengths under these rates
abbrev pub TermsEnd : List ℕ → Lengths → ReadFault → Type 0
TermsEnd rates lengths fault =
    Limited {X = Unit {0}} Edge (terms_are_above rates lengths.edges lengths.outer) tt (Err fault)

pub terms_end : (params : Params) (region : Region) (rates : List ℕ) (lengths : Lengths) (fault : ReadFault)
    → costs_are_above region.area ≡ false → rates_are_above (rates_of params region) ≡ false
    → lengths_are_above region.boundaries.bounds ≡ false
    → rates ≡ rates_of params region → lengths ≡ lengths_of region.boundaries.bounds → TermsEnd rates lengths fault
    → IsFound (first_passed (cost_limits params region)) fault
terms_end params region rates lengths fault costs low small rates_are lengths_are h =
    passed-later Cost (costs_are_above region.area) fault _ costs
    (passed-later Rate (rates_are_above (rates_of params region)) fault _ low
    (passed-later Boundary (lengths_are_above region.boundaries.bounds) fault _ small
    (passed-here (Unit {0}) Edge (are_terms_above params region) tt fault _
    (subst (λ (l : Lengths). TermsEnd (rates_of params region) l fault) lengths_are
    (subst (λ (rs : List ℕ). TermsEnd rs lengths fault) rates_are h)))))

-- the limits of amounts and target rows
pub totals_end : (X : Type 0) (region : Region) (x : X) (fault : ReadFault)
    → Limited {X = X} Amount (totals_are_above region.targets) x (Err fault)
    → IsFound (first_passed (target_limits region)) fault
totals_end X region x fault h = passed-here X Amount (totals_are_above region.targets) x fault _ h

pub gains_end : (X : Type 0) (region : Region) (x : X) (fault : ReadFault)
    → totals_are_above region.targets ≡ false → Limited {X = X} Gain (gains_are_above region) x (Err fault)
    → IsFound (first_passed (target_limits region)) fault
gains_end X region x fault totals h =
    passed-later Amount (totals_are_above region.targets) fault _ totals
    (passed-here X Gain (gains_are_above region) x fault _ h)

pub levels_end : (X : Type 0) (region : Region) (x : X) (fault : ReadFault)
    → totals_are_above region.targets ≡ false → gains_are_above region ≡ false
    → Limited {X = X} Level (levels_are_above region.targets) x (Err fault)
    → IsFound (first_passed (target_limits region)) fault
levels_end X region x fault totals gains h =
    passed-later Amount (totals_are_above region.targets) fault _ totals
    (passed-later Gain (gains_are_above region) fault _ gains
    (passed-here X Level (levels_are_above region.targets) x fault _ h))

-- a row that is too heavy
heavy-here : (region : Region) (fault : ReadFault) → Weighed region (Err fault)
    → IsFound (option_or (fault_of_heavy region (heavy_row region)) None) fault
heavy-here region (Shelf name) h = absurd h
heavy-here region (Absent name) h = absurd h
heavy-here region (Input (TooLong which)) h = absurd h
heavy-here region (Input (Param fault)) h = absurd h
heavy-here region (Input (Table which fault)) h = absurd h
heavy-here region (Input (Row which fault)) h = absurd h
heavy-here region (Input (Sum what)) h = absurd h
heavy-here region (Input (Weight id)) h =
    ap (λ (row : Option Target). option_or (fault_of_heavy region row) None) h.1 ∙ ap (λ (n : ℕ). Some (Weight n)) (sym h.2)
heavy-here region NoMemory h = tt

pub weights_end : (region : Region) (fault : ReadFault) → totals_are_above region.targets ≡ false
    → gains_are_above region ≡ false → levels_are_above region.targets ≡ false → Weighed region (Err fault)
    → IsFound (first_passed (target_limits region)) fault
weights_end region fault totals gains levels h =
    passed-later Amount (totals_are_above region.targets) fault _ totals
    (passed-later Gain (gains_are_above region) fault _ gains
    (passed-later Level (levels_are_above region.targets) fault _ levels (heavy-here region fault h)))

-- no limit is passed
costs_pass : (params : Params) (region : Region) → AreCostsWithin params region
    → first_passed (cost_limits params region) ≡ None
costs_pass params region are =
    none-passed Cost (costs_are_above region.area) _ are.costs
    (none-passed Rate (rates_are_above (rates_of params region)) _ are.rates
    (none-passed Boundary (lengths_are_above region.boundaries.bounds) _ are.lengths
    (none-passed Edge (are_terms_above params region) None are.terms refl)))

targets_pass : (region : Region) → AreTargetsWithin region → first_passed (target_limits region) ≡ None
targets_pass region are =
    none-passed Amount (totals_are_above region.targets) _ are.totals
    (none-passed Gain (gains_are_above region) _ are.gains
    (none-passed Level (levels_are_above region.targets) _ are.levels
    (ap (λ (row : Option Target). option_or (fault_of_heavy region row) None) are.weights)))

-- two lists of limits
found-first : (limits later : List (Option InputFault)) (fault : InputFault)
    → first_passed limits ≡ Some fault → first_passed (limits ++ later) ≡ Some fault
found-first [] later fault e = cc
found-first (None ∷ limits) later fault e = found-first limits later fault e
found-first (Some first ∷ limits) later fault e = e

found-later : (limits later : List (Option InputFault))
    → first_passed limits ≡ None → first_passed (limits ++ later) ≡ first_passed later
found-later [] later e = refl
found-later (None ∷ limits) later e = found-later limits later e
found-later (Some first ∷ limits) later e = cc

-- the fault of all limits, in their order
abbrev pub all_limits : Params → Region → List (Option InputFault)
all_limits params region = cost_limits params region ++ target_limits region

-- what is found by some of the limits, and so by all, is why the parts aren't taken
found-taken : (params : Params) (region : Region) (found : Option InputFault) (fault : ReadFault)
    → ((first : InputFault) → found ≡ Some first → first_passed (all_limits params region) ≡ Some first)
    → IsFound found fault → TakenAs (limited_parts params region) (Err fault)
unfolding limited_parts
found-taken params region found (Shelf name) all h = absurd h
found-taken params region found (Absent name) all h = absurd h
found-taken params region found (Input (TooLong which)) all h = absurd h
found-taken params region found (Input (Param fault)) all h = absurd h
found-taken params region found (Input (Table which fault)) all h = absurd h
found-taken params region found (Input (Row which fault)) all h = absurd h
found-taken params region found (Input (Sum what)) all h =
    ap (λ (first : Option InputFault). unless_passed first (parts_of params region)) (all (Sum what) h)
found-taken params region found (Input (Weight id)) all h =
    ap (λ (first : Option InputFault). unless_passed first (parts_of params region)) (all (Weight id) h)
found-taken params region found NoMemory all h = tt

pub cost_fault : (params : Params) (region : Region) (fault : ReadFault)
    → IsFound (first_passed (cost_limits params region)) fault → TakenAs (limited_parts params region) (Err fault)
cost_fault params region fault h =
    found-taken params region (first_passed (cost_limits params region)) fault
    (found-first (cost_limits params region) (target_limits region)) h

pub target_fault : (params : Params) (region : Region) (fault : ReadFault) → AreCostsWithin params region
    → IsFound (first_passed (target_limits region)) fault → TakenAs (limited_parts params region) (Err fault)
target_fault params region fault are h =
    found-taken params region (first_passed (target_limits region)) fault
    (λ first e. found-later (cost_limits params region) (target_limits region) (costs_pass params region are) ∙ e) h

-- the whole
parts-made : (params : Params) (region : Region) (numbers : Numbers) → AreNumbers params region numbers → parts_with region numbers ≡ parts_of params region
unfolding parts_of
parts-made params region numbers are =
    λ k. record {
      unit_ids = (are.ids_are k).units;
      zone_ids = (are.ids_are k).zones;
      feature_ids = (are.ids_are k).features;
      names = region.targets.features.names;
      available = region.area.available;
      allowed = region.allowed;
      costs = are.costs_are.terms_are k;
      rates = are.costs_are.rates_are k;
      edges = are.costs_are.edges_are k;
      outer = are.costs_are.outer_are k;
      targets = are.targets_are.rows_are k;
      amounts = are.targets_are.amounts_are k;
      fractions = region.targets.fractions;
    }

pub parts-taken : (params : Params) (region : Region) (numbers : Numbers) (parts : Parts)
    → AreNumbers params region numbers → parts ≡ parts_with region numbers → limited_parts params region ≡ Ok parts
unfolding limited_parts
parts-taken params region numbers parts are is =
    ap (λ (first : Option InputFault). unless_passed first (parts_of params region))
    (found-later (cost_limits params region) (target_limits region) (costs_pass params region are.costs_are.within)
    ∙ targets_pass region are.targets_are.within)
    ∙ ap (λ (made : Parts). Ok made) (sym (is ∙ parts-made params region numbers are))

pub parts-fit : (params : Params) (region : Region) (numbers : Numbers) (parts : Parts)
    → FitsRegion region → AreNumbers params region numbers → parts ≡ parts_with region numbers → IsValid parts
parts-fit params region numbers parts fit are is =
    subst IsValid (sym (is ∙ parts-made params region numbers are))
    (parts-valid params region fit are.costs_are.within are.targets_are.within)
