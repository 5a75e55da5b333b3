-- The columns of the files of zones, costs, units, zone costs, zone sets and locks.
use Rattle.std.specs.Prelude.{ℕ, true, false, List, [], ◌∷◌, ◌++◌, map, codes}
use Rattle.mz_tables.specs.declared.wants.Want.{Want}
use Rattle.mz_tables.specs.Wants.{want}

abbrev pub zone_columns : List Want
zone_columns = want (codes "zoneid") (codes "id") true ∷ want (codes "zonename") (codes "name") false ∷ []

abbrev pub cost_columns : List Want
cost_columns = want (codes "costid") (codes "id") true ∷ want (codes "costname") (codes "name") true ∷ []

-- the columns of units that are the same in every project
abbrev pub unit_id_columns : List Want
unit_id_columns = want (codes "id") [] true ∷ []

-- the columns of units: behind the id a column of its name for each cost
abbrev pub unit_columns : List (List ℕ) → List Want
unit_columns names = unit_id_columns ++ map (λ name. want name [] true) names

abbrev pub zone_cost_columns : List Want
zone_cost_columns = want (codes "zoneid") [] true ∷ want (codes "costid") [] true
    ∷ want (codes "multiplier") [] true ∷ []

-- the columns of zone sets and of locks
abbrev pub unit_zone_columns : List Want
unit_zone_columns = want (codes "puid") [] true ∷ want (codes "zoneid") [] true ∷ []
