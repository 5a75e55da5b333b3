-- The columns of the files of boundaries and of zone boundary costs.
use Rattle.std.specs.Prelude.{true, List, [], ◌∷◌, codes}
use Rattle.mz_tables.specs.declared.wants.Want.{Want}
use Rattle.mz_tables.specs.Wants.{want}

abbrev pub bound_columns : List Want
bound_columns = want (codes "id1") [] true ∷ want (codes "id2") [] true ∷ want (codes "boundary") [] true ∷ []

abbrev pub zone_bound_columns : List Want
zone_bound_columns = want (codes "zoneid1") [] true ∷ want (codes "zoneid2") [] true ∷ want (codes "cost") [] true ∷ []
