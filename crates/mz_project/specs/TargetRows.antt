-- The target rows.
use Rattle.std.specs.Prelude.{ℕ, ◌+◌, List, ◌++◌, length, map, slice_index, Option, Some, None}
use Rattle.mz_model.specs.declared.parts.Target.{Target}
use Rattle.mz_num.specs.Places.{list_below}
use Rattle.mz_targets.specs.declared.zone_targets.ZoneTarget.{ZoneTarget}
use Rattle.mz_project.specs.declared.region.Region.{Region}
use Rattle.mz_project.specs.Levels.{overall_level, zone_level}
use Rattle.mz_project.specs.Weights.{weight_for}

abbrev pub row_for : Region → ℕ → Option ℕ → ℕ → Target
row_for region feature zone level =
    record { feature = feature; zone = zone; level = level; weight = weight_for region feature level }

-- the overall row of a feature
abbrev pub overall_row : Region → ℕ → Target
overall_row region feature = row_for region feature None (overall_level region.targets feature)

-- the row of a zone target
abbrev pub zone_row : Region → ZoneTarget → Target
zone_row region target = row_for region target.feature (Some target.zone) (zone_level region.targets target)

-- all target rows: one for each feature, in order, and then the zone targets
unfoldable pub target_rows_of : Region → List Target
target_rows_of region =
    list_below (length region.targets.features.ids) (overall_row region)
    ++ map (zone_row region) region.targets.zone_targets

-- the id of a row's feature
abbrev pub id_of_row : Region → Target → ℕ
id_of_row region row = slice_index region.targets.features.ids row.feature
