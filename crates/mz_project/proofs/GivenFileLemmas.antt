-- A project that is given has read each given file, and no other.
use Rattle.std.proofs.Common.{◌≡◌, ℕ, List, [], ◌∷◌, ◌++◌, Option, Some, None, Result, refl, sym, ap, subst, ◌∙◌, append-nil}
use Rattle.std.proofs.lemmas.Grind.{flat_map-append}
use Rattle.mz_shelf.specs.State.{State, Files}
use Rattle.mz_params.specs.Folder.{file_in}
use Rattle.mz_params.specs.declared.params.Params.{Params}
use Rattle.mz_tables.specs.declared.fault.RowFault.{RowFault}
use Rattle.mz_tables.specs.declared.wants.Want.{Want}
use Rattle.mz_tables.specs.Table.{Row}
use Rattle.mz_model.specs.declared.parts.Parts.{Parts}
use Rattle.mz_project.specs.declared.area.Area.{Area}
use Rattle.mz_project.specs.declared.fault.Which.{Which}
use Rattle.mz_project.specs.declared.fault.Which.TheVariants as file
use Rattle.mz_project.specs.Area.{area_read}
use Rattle.mz_project.specs.Boundaries.{boundaries_read}
use Rattle.mz_project.specs.GivenFiles.{file_if_given, files_among, area_names, target_names, set_names, boundary_names, given_files}
use Rattle.mz_project.specs.InputFiles.{columns_of, file_named}
use Rattle.mz_project.specs.Project.{project_read}
use Rattle.mz_project.specs.ReadAs.{IfTold, IsGiven, ReadEach}
use Rattle.mz_project.specs.Reads.{Reads, Outcome, file_read, read_behind, rows_or_default, rows_read, table_by_name, table_given, table_read, then_read}
use Rattle.mz_project.specs.Reads.Outcome.{Missing, Refused, Given}
use Rattle.mz_project.specs.Region.{region_read}
use Rattle.mz_project.specs.Sets.{allowed_read}
use Rattle.mz_project.specs.Targets.{targets_read}
use Rattle.mz_project.proofs.ReadLemmas.{if_both}

-- where it gives anything, it has read these
abbrev GivesBy : {X : Type 0} → List (List ℕ) → Reads X → Type 0
GivesBy {X} names reads = (x : X) → reads.outcome ≡ Given x → reads.names ≡ names

abbrev Gives : {X : Type 0} → Outcome X → Type 0
Gives (Missing name) = ⊥
Gives (Refused fault) = ⊥
Gives (Given x) = Unit {0}

gives : {X : Type 0} (o : Outcome X) (x : X) → o ≡ Given x → Gives o
gives o x is = subst (λ (p : Outcome _). Gives p) (sym is) tt

behind_gives : {X Y : Type 0} (a b names : List (List ℕ)) (o : Outcome X) (next : X → Reads Y) → ((x : X) → o ≡ Given x → names ≡ a) → ((x : X) → GivesBy b (next x)) → GivesBy (a ++ b) (read_behind names o next)
behind_gives a b names (Missing name) next first later y is = absurd (gives (Missing name) y is)
behind_gives a b names (Refused fault) next first later y is = absurd (gives (Refused fault) y is)
behind_gives a b names (Given x) next first later y is = ap (λ (ns : List (List ℕ)). names ++ ns) (later x y is) ∙ ap (λ (ns : List (List ℕ)). ns ++ b) (first x refl)

then_gives : {X Y : Type 0} (a b : List (List ℕ)) (first : Reads X) (next : X → Reads Y) → GivesBy a first → ((x : X) → GivesBy b (next x)) → GivesBy (a ++ b) (then_read first next)
then_gives a b first next early later = behind_gives a b first.names first.outcome next early later

-- one file
rows_give : {X : Type 0} (files : Files) (folder name : List ℕ) (which : Which) (wants : List Want) (reader : List Row → Result X RowFault) → GivesBy (file_in folder name ∷ []) (rows_read files folder name which wants reader)
rows_give files folder name which wants reader =
    then_gives (file_in folder name ∷ []) [] (table_read files (file_in folder name) which wants) _
    (then_gives (file_in folder name ∷ []) [] (file_read files (file_in folder name) which) _ (λ bytes is. refl) (λ bytes x is. refl)) (λ rows x is. refl)

named_gives : (files : Files) (folder : List ℕ) (name : Option (List ℕ)) (which : Which) → GivesBy (file_if_given folder name) (table_by_name files folder name which)
named_gives files folder None which = λ x is. refl
named_gives files folder (Some name) which =
    then_gives (file_in folder name ∷ []) [] (table_read files (file_in folder name) which (columns_of which)) _
    (then_gives (file_in folder name ∷ []) [] (file_read files (file_in folder name) which) _ (λ bytes is. refl) (λ bytes x is. refl)) (λ rows x is. refl)

given_gives : {X : Type 0} (params : Params) (files : Files) (which : Which) (default : X) (reader : List Row → Result X RowFault) → GivesBy (file_if_given params.input_dir (file_named params which)) (rows_or_default params which default reader files)
given_gives params files which default reader x is =
    then_gives (file_if_given params.input_dir (file_named params which)) [] (table_given params which files) _ (named_gives files params.input_dir (file_named params which) which) (λ table y given. refl) x is
    ∙ append-nil (file_if_given params.input_dir (file_named params which))

-- the files of each part
area_gives : (params : Params) (files : Files) → GivesBy (files_among params.input_dir (area_names params)) (area_read params files)
unfolding area_read
area_gives params files =
    let given = file_if_given params.input_dir in
    then_gives (given params.zones) _ _ _ (given_gives params files file.Zones _ _) (λ zones.
    then_gives [] _ _ _ (λ x is. refl) (λ available.
    then_gives (given params.costs) _ _ _ (given_gives params files file.Costs _ _) (λ costs.
    then_gives (given (Some params.units)) _ _ _ (rows_give files params.input_dir params.units _ _ _) (λ units.
    then_gives (given params.zone_costs) [] _ _ (given_gives params files file.ZoneCosts _ _) (λ multipliers x is. refl)))))

targets_give : (params : Params) (area : Area) (files : Files) → GivesBy (files_among params.input_dir (target_names params)) (targets_read params area files)
unfolding targets_read
targets_give params area files =
    let given = file_if_given params.input_dir in
    then_gives (given params.features) _ _ _ (given_gives params files file.Features _ _) (λ features.
    then_gives (given params.amounts) _ _ _ (given_gives params files file.Amounts _ _) (λ amounts.
    then_gives (given params.contribs) _ _ _ (given_gives params files file.Contribs _ _) (λ fractions.
    then_gives (given params.zone_targets) [] _ _ (given_gives params files file.ZoneTargets _ _) (λ zone_targets x is. refl))))

sets_give : (params : Params) (area : Area) (files : Files) → GivesBy (files_among params.input_dir (set_names params)) (allowed_read params area files)
unfolding allowed_read
sets_give params area files x is =
    let given = file_if_given params.input_dir in
    then_gives (given params.zone_sets) (given params.locks) _ _ (given_gives params files file.ZoneSets _ _) (λ sets.
    given_gives params files file.Locks _ _) x is
    ∙ ap (λ (ns : List (List ℕ)). given params.zone_sets ++ ns) (sym (append-nil (given params.locks)))

boundaries_give : (params : Params) (area : Area) (files : Files) → GivesBy (files_among params.input_dir (boundary_names params)) (boundaries_read params area files)
unfolding boundaries_read
boundaries_give params area files =
    let given = file_if_given params.input_dir in
    then_gives (given params.bounds) _ _ _ (given_gives params files file.Bounds _ _) (λ bounds.
    then_gives (given params.zone_bounds) [] _ _ (given_gives params files file.ZoneBounds _ _) (λ costs x is. refl))

-- the parts one after another
files_among-append : (folder : List ℕ) (names more : List (Option (List ℕ))) → files_among folder (names ++ more) ≡ files_among folder names ++ files_among folder more
files_among-append folder names more = flat_map-append (file_if_given folder) names more

all_files : (params : Params) → files_among params.input_dir (area_names params) ++ (files_among params.input_dir (target_names params) ++ (files_among params.input_dir (set_names params) ++ (files_among params.input_dir (boundary_names params) ++ []))) ≡ given_files params
unfolding given_files
all_files params =
    let folder = params.input_dir in
    let areas = files_among folder (area_names params) in
    let targets = files_among folder (target_names params) in
    let sets = files_among folder (set_names params) in
    ap (λ (ns : List (List ℕ)). areas ++ (targets ++ (sets ++ ns))) (append-nil (files_among folder (boundary_names params)))
    ∙ ap (λ (ns : List (List ℕ)). areas ++ (targets ++ ns)) (sym (files_among-append folder (set_names params) (boundary_names params)))
    ∙ ap (λ (ns : List (List ℕ)). areas ++ ns) (sym (files_among-append folder (target_names params) (set_names params ++ boundary_names params)))
    ∙ sym (files_among-append folder (area_names params) (target_names params ++ (set_names params ++ boundary_names params)))

project_gives : (params : Params) (files : Files) (parts : Parts) → (project_read params files).outcome ≡ Given parts → (project_read params files).names ≡ given_files params
unfolding project_read region_read
project_gives params files parts is =
    let folder = params.input_dir in
    (then_gives _ [] _ _
    (then_gives (files_among folder (area_names params)) _ _ _ (area_gives params files) (λ area.
    then_gives (files_among folder (target_names params)) _ _ _ (targets_give params area files) (λ targets.
    then_gives (files_among folder (set_names params)) _ _ _ (sets_give params area files) (λ allowed.
    then_gives (files_among folder (boundary_names params)) [] _ _ (boundaries_give params area files) (λ boundaries x given. refl)))))
    (λ region x given. refl)) parts is
    ∙ append-nil _ ∙ all_files params

each_given : (names files : List (List ℕ)) (old new : State) → names ≡ files → ReadEach names old new → ReadEach files old new
each_given names files old new same each = subst (λ (ns : List (List ℕ)). ReadEach ns old new) same each

pub each_given_file : (params : Params) (parts : Parts) (old new : State) → IsGiven (project_read params) old new parts → IfTold old (λ _. ReadEach (given_files params) old new)
each_given_file params parts old new given =
    if_both old.contents.files (λ files. (project_read params files).outcome ≡ Given parts) (λ files. ReadEach (project_read params files).names old new) (λ _. ReadEach (given_files params) old new)
    (λ files is each. each_given (project_read params files).names (given_files params) old new (project_gives params files parts is) each) given.given given.names
