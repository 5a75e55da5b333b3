-- The text of missing values.
use Rattle.std.specs.Prelude.{ℕ, ◌+◌, List, [], ◌++◌, Bool, codes, decimal, slice_index, slice_index_or}
use Rattle.std.specs.Prelude.{Option, None, Some, if◌then◌else◌}
use Rattle.std.specs.List.{concat}
use Rattle.mz_num.specs.Places.{list_below}
use Rattle.mz_model.specs.declared.parts.Parts.{Parts}
use Rattle.mz_model.specs.declared.parts.Target.{Target}
use Rattle.mz_model.specs.Parts.{target_at, target_count}
use Rattle.mz_model.specs.Targets.{shortfall_of}
use Rattle.mz_files.specs.Fields.{amount_field, name_field, number_field}
use Rattle.mz_files.specs.Missed.{row_is_met}

-- the id of a target row's zone; an overall row has none, and 0 stands for it
abbrev pub zone_of_row : Parts → Option ℕ → ℕ
zone_of_row parts None = 0
zone_of_row parts (Some zone) = slice_index parts.zone_ids zone

-- a target row's zone, and the id and the name of its feature
abbrev pub target_fields : Parts → Target → List ℕ
target_fields parts target =
    number_field (zone_of_row parts target.zone) ++ number_field (slice_index parts.feature_ids target.feature)
    ++ name_field (slice_index_or parts.names target.feature [])

-- a level, what is held of it, and what is missing
abbrev pub amount_fields : ℕ → ℕ → ℕ → List ℕ
amount_fields level held missing = amount_field level ++ amount_field held ++ amount_field missing

abbrev pub met_word : Bool → List ℕ
met_word is_met = if is_met then codes "yes" else codes "no"

-- a target row's number, from 1, with its zone and feature, its amounts, and whether it is met
abbrev pub missing_line : Parts → List ℕ → ℕ → ℕ → List ℕ
missing_line parts totals miss_level row =
    decimal (row + 1) ++ target_fields parts (target_at parts row)
    ++ amount_fields (target_at parts row).level (slice_index totals row)
    (shortfall_of parts row (slice_index totals row))
    ++ codes "," ++ met_word (row_is_met parts totals miss_level row) ++ codes "\n"

-- a header, and a line for each target row
unfoldable pub missing_text : Parts → List ℕ → ℕ → List ℕ
missing_text parts totals miss_level =
    codes "target,zone,feature,name,level,held,shortfall,met\n"
    ++ concat (list_below (target_count parts) (missing_line parts totals miss_level))
