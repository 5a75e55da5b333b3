-- What units cost.
use Rattle.std.specs.Prelude.{ℕ, ◌+◌, ◌*◌, ◌/◌, ◌%◌, List, length, slice_index}
use Rattle.std.specs.List.{sum}
use Rattle.mz_num.specs.Places.{list_below, sum_below, greatest_below}
use Rattle.mz_units.specs.Terms.{cost_term}
use Rattle.mz_project.specs.declared.area.Area.{Area}

-- the cost term of a unit in a zone
abbrev pub term_of : Area → ℕ → ℕ → ℕ
term_of area unit zone = cost_term (length area.costs.ids) area.units.costs area.multipliers unit zone

-- the terms of all units in all zones, at `unit * zones + zone`
unfoldable pub terms_of : Area → List ℕ
terms_of area =
    list_below (length area.units.ids * length area.zones.ids)
    (λ place. term_of area (place / length area.zones.ids) (place % length area.zones.ids))

-- what the units cost in their dearest zones
abbrev pub greatest_cost : Area → ℕ
greatest_cost area =
    sum_below (length area.units.ids) (λ unit. greatest_below (length area.zones.ids) (term_of area unit))

-- all costs of all units
abbrev pub raw_cost : Area → ℕ
raw_cost area = sum area.units.costs

-- the raw cost of a unit: all its costs, without multipliers
abbrev pub raw_cost_of : Area → ℕ → ℕ
raw_cost_of area unit =
    sum_below (length area.costs.ids) (λ cost. slice_index area.units.costs (unit * length area.costs.ids + cost))

unfoldable pub raw_costs_of : Area → List ℕ
raw_costs_of area = list_below (length area.units.ids) (raw_cost_of area)
