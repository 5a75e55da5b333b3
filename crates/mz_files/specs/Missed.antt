-- What totals miss: totals are what is held for each target row.
use Rattle.std.specs.Prelude.{ℕ, Bool, List, length, not, slice_index}
use Rattle.mz_num.specs.Places.{places_below, sum_below}
use Rattle.mz_model.specs.declared.parts.Parts.{Parts}
use Rattle.mz_model.specs.Parts.{target_at, target_count}
use Rattle.mz_model.specs.Targets.{is_met, shortfall_of}

-- the shortfall of all target rows
unfoldable pub shortfall_of_totals : Parts → List ℕ → ℕ
shortfall_of_totals parts totals =
    sum_below (target_count parts) (λ row. shortfall_of parts row (slice_index totals row))

-- whether a target row is met
abbrev pub row_is_met : Parts → List ℕ → ℕ → ℕ → Bool
row_is_met parts totals miss_level row = is_met miss_level (target_at parts row).level (slice_index totals row)

-- how many target rows aren't met
unfoldable pub missing_of_totals : Parts → List ℕ → ℕ → ℕ
missing_of_totals parts totals miss_level =
    length (places_below (target_count parts) (λ row. not (row_is_met parts totals miss_level row)))
