-- The columns of the files of features, amounts, contributions and zone targets.
use Rattle.std.specs.Prelude.{true, false, List, [], ◌∷◌, codes}
use Rattle.mz_tables.specs.declared.wants.Want.{Want}
use Rattle.mz_tables.specs.Wants.{want}

abbrev pub feature_columns : List Want
feature_columns =
    want (codes "id") [] true
    ∷ want (codes "target") [] false
    ∷ want (codes "prop") [] false
    ∷ want (codes "spf") (codes "fpf") false
    ∷ want (codes "name") [] false
    ∷ want (codes "target2") [] false
    ∷ want (codes "sepnum") [] false
    ∷ want (codes "sepdistance") [] false
    ∷ want (codes "targetocc") [] false
    ∷ []

abbrev pub amount_columns : List Want
amount_columns = want (codes "featureid") (codes "species") true ∷ want (codes "puid") (codes "pu") true
    ∷ want (codes "amount") [] true ∷ []

abbrev pub contrib_columns : List Want
contrib_columns = want (codes "zoneid") [] true ∷ want (codes "featureid") [] true ∷ want (codes "fraction") [] true
    ∷ []

abbrev pub zone_target_columns : List Want
zone_target_columns =
    want (codes "zoneid") [] true
    ∷ want (codes "featureid") [] true
    ∷ want (codes "target") [] true
    ∷ want (codes "targettype") [] false
    ∷ []
