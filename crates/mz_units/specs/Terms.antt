-- The cost terms: what a unit costs in a zone.
use Rattle.std.specs.Prelude.{ℕ, ◌+◌, ◌*◌, ◌≡◌, ◌<◌, ◌≤◌, List, length, slice_index}
use Rattle.std.specs.List.{range_with_len, sum_by}
use Rattle.mz_num.specs.Limits.{million, most_costs}
use Rattle.mz_num.specs.Round.{round}
use Rattle.mz_units.specs.declared.units.UnitList.{UnitList}

-- the costs of a unit, each times its multiplier in a zone, in ten-thousandths of millionths
abbrev pub weighed_sum : ℕ → List ℕ → List ℕ → ℕ → ℕ → ℕ
weighed_sum costs unit_costs mult unit zone =
    sum_by (λ cost. slice_index mult (zone * costs + cost) * slice_index unit_costs (unit * costs + cost))
    (range_with_len 0 costs)

-- the term of a unit in a zone, in ten-thousandths
unfoldable pub cost_term : ℕ → List ℕ → List ℕ → ℕ → ℕ → ℕ
cost_term costs unit_costs mult unit zone = round (weighed_sum costs unit_costs mult unit zone) million

-- the term of each unit in each zone, at `unit * zones + zone`
pub record AreCostTerms (costs : ℕ) (units : UnitList) (mult : List ℕ) (zones : ℕ) (terms : List ℕ) : Type 0 where
  pub all_pairs : length terms ≡ length units.ids * zones
  pub each : (unit zone : ℕ) → unit < length units.ids → zone < zones
      → slice_index terms (unit * zones + zone) ≡ cost_term costs units.costs mult unit zone

-- so many costs for each unit, and as many multipliers for each zone
pub record HasCosts (costs : ℕ) (units : UnitList) (mult : List ℕ) (zones : ℕ) : Type 0 where
  pub few : costs ≤ most_costs
  pub unit_costs : length units.costs ≡ length units.ids * costs
  pub multipliers : length mult ≡ zones * costs
