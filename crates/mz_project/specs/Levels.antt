-- The levels of target rows.
use Rattle.std.specs.Prelude.{ℕ, ◌+◌, ◌==◌, nat_lt, if◌then◌else◌, List, ◌++◌, length, map, slice_index_or}
use Rattle.mz_model.specs.Amounts.{total_of}
use Rattle.mz_num.specs.Places.{list_below}
use Rattle.mz_targets.specs.declared.features.Feature.{Feature}
use Rattle.mz_targets.specs.declared.zone_targets.ZoneTarget.{ZoneTarget}
use Rattle.mz_targets.specs.Level.{level}
use Rattle.mz_project.specs.declared.targets.Targets.{Targets}

-- a feature that asks for nothing, which stands for one past the last
abbrev pub no_feature : Feature
no_feature = record { target = 0; prop = 0; spf = 0 }

abbrev pub feature_at : Targets → ℕ → Feature
feature_at targets feature = slice_index_or targets.features.rows feature no_feature

-- the level of a feature: the proportion of its total where one is given, else its target
abbrev pub overall_level : Targets → ℕ → ℕ
overall_level targets feature =
    let asked = feature_at targets feature in
    level (if nat_lt 0 asked.prop then asked.prop else asked.target)
    (total_of targets.amounts feature) (nat_lt 0 asked.prop)

-- the level of a zone target: a proportion of the feature's total where it is of that type, else an amount
abbrev pub zone_level : Targets → ZoneTarget → ℕ
zone_level targets target = level target.value (total_of targets.amounts target.feature) (target.kind == 1)

-- the levels of all target rows: one for each feature, in order, and then those of the zone targets
unfoldable pub levels_of : Targets → List ℕ
levels_of targets =
    list_below (length targets.features.ids) (overall_level targets) ++ map (zone_level targets) targets.zone_targets
