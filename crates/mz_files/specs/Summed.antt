-- The text of the summed solutions.
use Rattle.std.specs.Prelude.{ℕ, List, ◌++◌, codes, decimal, slice_index}
use Rattle.std.specs.List.{concat}
use Rattle.mz_num.specs.Places.{list_below}
use Rattle.mz_model.specs.declared.parts.Parts.{Parts}
use Rattle.mz_model.specs.Parts.{unit_count, zone_count}
use Rattle.mz_sums.specs.Sums.{Sums, count_in}
use Rattle.mz_files.specs.Fields.{number_field}

-- a column's name: zone and the zone's id
abbrev pub zone_name : Parts → ℕ → List ℕ
zone_name parts zone = codes ",zone" ++ decimal (slice_index parts.zone_ids zone)

abbrev pub summed_header : Parts → List ℕ
summed_header parts =
    codes "planning_unit" ++ concat (list_below (zone_count parts) (zone_name parts)) ++ codes "\n"

-- how many of the plans give the unit the zone
abbrev pub count_field : Sums → ℕ → ℕ → List ℕ
count_field sums unit zone = number_field (count_in sums unit zone)

-- a unit's id and its count for each zone
abbrev pub summed_line : Parts → Sums → ℕ → List ℕ
summed_line parts sums unit =
    decimal (slice_index parts.unit_ids unit) ++ concat (list_below (zone_count parts) (count_field sums unit))
    ++ codes "\n"

-- a header, and a line for each unit in order
unfoldable pub summed_text : Parts → Sums → List ℕ
summed_text parts sums = summed_header parts ++ concat (list_below (unit_count parts) (summed_line parts sums))
