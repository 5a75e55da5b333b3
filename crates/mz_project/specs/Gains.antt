-- What target rows hold of units.
use Rattle.std.specs.Prelude.{ℕ, ◌+◌, ◌*◌, length, slice_index}
use Rattle.mz_model.specs.declared.parts.Target.{Target}
use Rattle.mz_model.specs.Amounts.{amount_of}
use Rattle.mz_num.specs.Places.{sum_below, greatest_below}
use Rattle.mz_model.specs.Targets.{counted}
use Rattle.mz_project.specs.declared.region.Region.{Region}

-- what a unit gains for a row in a zone
abbrev pub gain_in : Region → Target → ℕ → ℕ → ℕ
gain_in region row unit zone =
    counted row.zone (amount_of region.targets.amounts unit row.feature)
    (slice_index region.targets.fractions (zone * length region.targets.features.ids + row.feature)) zone

-- what a row holds where each unit has its best zone
abbrev pub greatest_gain : Region → Target → ℕ
greatest_gain region row =
    sum_below (length region.area.units.ids)
    (λ unit. greatest_below (length region.area.zones.ids) (gain_in region row unit))
