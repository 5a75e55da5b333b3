-- The score of a plan: sums over the whole plan.
use Rattle.std.specs.Prelude.{ℕ, ◌+◌, ◌*◌, cond, List, slice_index, nat_lt}
use Rattle.std.specs.List.{sum_by}
use Rattle.mz_num.specs.Round.{round}
use Rattle.mz_model.specs.declared.parts.Parts.{Parts}
use Rattle.mz_model.specs.declared.score.Score.{Score}
use Rattle.mz_model.specs.Boundary.{edge_term_of}
use Rattle.mz_model.specs.Parts.{unit_count, target_count, cost_at, outer_at, target_at}
use Rattle.mz_num.specs.Places.{sum_below}
use Rattle.mz_model.specs.Targets.{held_of, shortfall_of}

-- the cost of a plan: the terms of all units in their zones
unfoldable pub cost_of_plan : Parts → List ℕ → ℕ
cost_of_plan parts zones = sum_below (unit_count parts) (λ unit. cost_at parts unit (slice_index zones unit))

-- the term of a pair of neighbours in their zones
unfoldable pub pair_term : Parts → List ℕ → ℕ × ℕ × ℕ → ℕ
pair_term parts zones edge = edge_term_of parts edge.2 (slice_index zones edge.0) (slice_index zones edge.1)

-- the term of a unit's outer length, between its zone and the available zone
unfoldable pub outer_term : Parts → List ℕ → ℕ → ℕ
outer_term parts zones unit = edge_term_of parts (outer_at parts unit) (slice_index zones unit) parts.available

-- the boundary cost of a plan: the terms of all pairs, and those of the outer lengths
unfoldable pub boundary_of_plan : Parts → List ℕ → ℕ
boundary_of_plan parts zones =
    sum_by (pair_term parts zones) parts.edges + sum_below (unit_count parts) (outer_term parts zones)

-- the penalty of a target row for which so much is held: its weight, by the part of its level that is missing;
-- a row whose level is 0 has none
unfoldable pub penalty_term_of : Parts → ℕ → ℕ → ℕ
penalty_term_of parts row held =
    let target = target_at parts row in
    cond (nat_lt 0 target.level) (round (target.weight * shortfall_of parts row held) target.level) 0

-- the penalty of a plan: that of all target rows
unfoldable pub penalty_of_plan : Parts → List ℕ → ℕ
penalty_of_plan parts zones =
    sum_below (target_count parts) (λ row. penalty_term_of parts row (held_of parts zones row))

-- the score of a plan
abbrev pub score_of_plan : Parts → List ℕ → Score
score_of_plan parts zones = record {
  cost = cost_of_plan parts zones;
  boundary = boundary_of_plan parts zones;
  penalty = penalty_of_plan parts zones;
  total = cost_of_plan parts zones + boundary_of_plan parts zones + penalty_of_plan parts zones;
}
