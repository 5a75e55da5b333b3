-- The files that parameters give, in the order in which they are read.
use Rattle.std.specs.Prelude.{ℕ, List, [], ◌∷◌, ◌++◌, Option, Some, None}
use Rattle.std.specs.List.{flat_map}
use Rattle.mz_params.specs.Folder.{file_in}
use Rattle.mz_params.specs.declared.params.Params.{Params}

-- a file, where it's given
abbrev pub file_if_given : List ℕ → Option (List ℕ) → List (List ℕ)
file_if_given folder None = []
file_if_given folder (Some name) = file_in folder name ∷ []

abbrev pub files_among : List ℕ → List (Option (List ℕ)) → List (List ℕ)
files_among folder names = flat_map (file_if_given folder) names

-- of zones, costs, units and zone costs
abbrev pub area_names : Params → List (Option (List ℕ))
area_names params = params.zones ∷ params.costs ∷ Some params.units ∷ params.zone_costs ∷ []

-- of features, amounts, contributions and zone targets
abbrev pub target_names : Params → List (Option (List ℕ))
target_names params = params.features ∷ params.amounts ∷ params.contribs ∷ params.zone_targets ∷ []

-- of zone sets and locks
abbrev pub set_names : Params → List (Option (List ℕ))
set_names params = params.zone_sets ∷ params.locks ∷ []

-- of boundaries and zone boundary costs
abbrev pub boundary_names : Params → List (Option (List ℕ))
boundary_names params = params.bounds ∷ params.zone_bounds ∷ []

-- all of these, in order
unfoldable pub given_files : Params → List (List ℕ)
given_files params =
    files_among params.input_dir
    (area_names params ++ (target_names params ++ (set_names params ++ boundary_names params)))
