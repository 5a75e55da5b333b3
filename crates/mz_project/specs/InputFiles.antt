-- The table of the input files: of each the word that messages name it by, the parameter that names it, and the
-- columns that it is read for.
use Rattle.std.specs.Prelude.{ℕ, Bool, false, nat_lt, if◌then◌else◌, List, [], ◌++◌, codes, decimal, get_or, Option}
use Rattle.std.specs.Prelude.{Some, None}
use Rattle.mz_params.specs.declared.params.Params.{Params}
use Rattle.mz_tables.specs.declared.wants.Want.{Want}
use Rattle.mz_tables.specs.Wants.{want}
use Rattle.mz_units.specs.Wanted.{cost_columns, unit_id_columns, unit_zone_columns, zone_columns, zone_cost_columns}
use Rattle.mz_targets.specs.Wanted.{amount_columns, contrib_columns, feature_columns, zone_target_columns}
use Rattle.mz_bounds.specs.Wanted.{bound_columns, zone_bound_columns}
use Rattle.mz_project.specs.declared.fault.Which.{Which}
use Rattle.mz_project.specs.declared.fault.Which.TheVariants as file

-- the word of a file
abbrev pub word_of_file : Which → List ℕ
word_of_file file.Params = codes "input"
word_of_file file.Zones = codes "zones"
word_of_file file.Costs = codes "costs"
word_of_file file.Units = codes "units"
word_of_file file.ZoneCosts = codes "zonecost"
word_of_file file.Features = codes "features"
word_of_file file.Amounts = codes "amounts"
word_of_file file.Contribs = codes "zonecontrib"
word_of_file file.ZoneTargets = codes "zonetarget"
word_of_file file.ZoneSets = codes "puzone"
word_of_file file.Locks = codes "pulock"
word_of_file file.Bounds = codes "bound"
word_of_file file.ZoneBounds = codes "zoneboundcost"

-- the name that the parameters give a file, where they give one; the parameter file has none there
abbrev pub file_named : Params → Which → Option (List ℕ)
file_named params file.Params = None
file_named params file.Zones = params.zones
file_named params file.Costs = params.costs
file_named params file.Units = Some params.units
file_named params file.ZoneCosts = params.zone_costs
file_named params file.Features = params.features
file_named params file.Amounts = params.amounts
file_named params file.Contribs = params.contribs
file_named params file.ZoneTargets = params.zone_targets
file_named params file.ZoneSets = params.zone_sets
file_named params file.Locks = params.locks
file_named params file.Bounds = params.bounds
file_named params file.ZoneBounds = params.zone_bounds

-- the columns of a file, of which the unit file has one more for each cost; the parameter file is no table
abbrev pub columns_of : Which → List Want
columns_of file.Params = []
columns_of file.Zones = zone_columns
columns_of file.Costs = cost_columns
columns_of file.Units = unit_id_columns
columns_of file.ZoneCosts = zone_cost_columns
columns_of file.Features = feature_columns
columns_of file.Amounts = amount_columns
columns_of file.Contribs = contrib_columns
columns_of file.ZoneTargets = zone_target_columns
columns_of file.ZoneSets = unit_zone_columns
columns_of file.Locks = unit_zone_columns
columns_of file.Bounds = bound_columns
columns_of file.ZoneBounds = zone_bound_columns

-- every column of the unit file behind the first is a cost
abbrev pub is_cost_column : Which → ℕ → Bool
is_cost_column file.Units place = nat_lt 0 place
is_cost_column which place = false

-- a column past the last
abbrev pub no_column : Want
no_column = want [] [] false

-- the name of the column at a place, by which messages name it: `cost` and the place of a cost, else the
-- column's first name;
-- empty past the last column
abbrev pub column_name : Which → ℕ → List ℕ
column_name which place =
    if is_cost_column which place then codes "cost " ++ decimal place
    else (get_or (columns_of which) place no_column).name
