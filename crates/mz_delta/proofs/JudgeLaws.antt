-- Laws of judged moves: for each legal plan that agrees with the reading, what was counted round the unit is the
-- difference of the whole scores.
use Rattle.std.proofs.Common.{◌≡◌, ℕ, ◌+◌, ◌<◌, List, length, map, get_or, refl, ap, sym, ◌∙◌, subst, arith}
use Rattle.std.specs.Prelude.{pos, ◌+ℤ◌, ◌-ℤ◌, IsTrue, slice_index}
use Rattle.std.specs.List.{sum_by}
use Rattle.std.proofs.lemmas.List.{get_or-map, length-map}
use Rattle.std.proofs.lemmas.List.Elements.{All-get_or}
use Rattle.mz_model.specs.declared.neighbour.Neighbour.{Neighbour}
use Rattle.mz_model.specs.declared.parts.Parts.{Parts}
use Rattle.mz_model.specs.Boundary.{edge_term_of, neighbours_of, no_neighbour}
use Rattle.mz_model.specs.Parts.{cost_at, outer_at}
use Rattle.mz_num.specs.Places.{sum_below}
use Rattle.mz_model.specs.Plans.{IsLegalPlan}
use Rattle.mz_model.specs.Scores.{boundary_of_plan, cost_of_plan, penalty_of_plan, penalty_term_of}
use Rattle.mz_model.specs.Targets.{gain_of, held_of, touched_rows}
use Rattle.mz_model.specs.Valid.{IsValid}
use Rattle.mz_model.specs.Zones.{is_allowed}
use Rattle.mz_num.proofs.PlaceLaws.{list_below-from, sum_below-same}
use Rattle.mz_model.proofs.ScoreLaws.{boundary_of_plan-is}
use Rattle.mz_delta.specs.declared.judged.Judged.{Judged}
use Rattle.mz_delta.specs.declared.reading.Reading.{Reading}
use Rattle.mz_delta.specs.Judged.{IsDifference}
use Rattle.mz_delta.specs.Move.{boundary_around, boundary_growth, cost_growth, moved_total, moved_totals, neighbour_term, penalty_around, penalty_growth, penalty_moved, penalty_read}
use Rattle.mz_model.specs.Move.{moved_plan}
use Rattle.mz_delta.specs.Reading.{Agrees, IsWellFormed, neighbour_at}
use Rattle.mz_delta.proofs.DifferenceLaws.{crosswise, sum_of_differences}
use Rattle.mz_delta.proofs.MoveLaws.{cost-moved, held-moved, moved-other, moved-own, outer-moved, pairs-moved}
use Rattle.mz_delta.proofs.PairLaws.{near_by, neighbours_of-others}
use Rattle.mz_delta.proofs.RowLaws.{near_penalty, penalty-moved}
use Rattle.mz_delta.proofs.SumLaws.{sum_by-places}

-- ---- boundary

-- what a unit sees of its pairs where it has the zone and its neighbours the read ones
near_terms : (parts : Parts) (reading : Reading) (zone : ℕ) (zone_of : ℕ → ℕ) → zone_of reading.unit ≡ zone → ((i : ℕ) → i < length (neighbours_of parts reading.unit) → zone_of (neighbour_at parts reading.unit i) ≡ slice_index reading.neighbours.items i)
    → sum_by (near_by (edge_term_of parts) zone_of reading.unit) (neighbours_of parts reading.unit) ≡ sum_below (length (neighbours_of parts reading.unit)) (neighbour_term parts reading zone)
unfolding neighbour_term
near_terms parts reading zone zone_of own others =
    sum_by-places (near_by (edge_term_of parts) zone_of reading.unit) (neighbours_of parts reading.unit) no_neighbour
    ∙ sum_below-same (length (neighbours_of parts reading.unit)) (λ i. near_by (edge_term_of parts) zone_of reading.unit (get_or (neighbours_of parts reading.unit) i no_neighbour)) (neighbour_term parts reading zone)
    (λ i h. ap (λ z. edge_term_of parts (get_or (neighbours_of parts reading.unit) i no_neighbour).length z (zone_of (neighbour_at parts reading.unit i))) own
    ∙ ap (edge_term_of parts (get_or (neighbours_of parts reading.unit) i no_neighbour).length zone) (others i h))

-- the read zone of a neighbour is its zone in a plan that agrees
read_neighbour : (parts : Parts) (reading : Reading) (zones : List ℕ) (i : ℕ) → Agrees parts zones reading → i < length (neighbours_of parts reading.unit) → slice_index zones (neighbour_at parts reading.unit i) ≡ slice_index reading.neighbours.items i
read_neighbour parts reading zones i agrees h =
    sym (ap (λ (zs : List ℕ). get_or zs i 0) agrees.neighbours ∙ get_or-map (λ (neighbour : Neighbour). slice_index zones neighbour.unit) (neighbours_of parts reading.unit) i no_neighbour 0 h)

boundary_around-is : (parts : Parts) (reading : Reading) (zone : ℕ) → boundary_around parts reading zone ≡ sum_below (length (neighbours_of parts reading.unit)) (neighbour_term parts reading zone) + edge_term_of parts (outer_at parts reading.unit) zone parts.available
unfolding boundary_around
boundary_around-is parts reading zone = refl

boundary-moved : (parts : Parts) (reading : Reading) (zones : List ℕ) (zone : ℕ) → IsValid parts → IsWellFormed parts reading → IsTrue (is_allowed parts reading.unit zone) → IsLegalPlan parts zones → Agrees parts zones reading
    → boundary_of_plan parts (moved_plan zones reading.unit zone) + boundary_around parts reading reading.zone ≡ boundary_of_plan parts zones + boundary_around parts reading zone
boundary-moved parts reading zones zone valid well allowed legal agrees =
    let inside : reading.unit < length zones = subst (λ n. reading.unit < n) (sym legal.whole) well.unit in
    let before : sum_by (near_by (edge_term_of parts) (slice_index zones) reading.unit) (neighbours_of parts reading.unit) ≡ sum_below (length (neighbours_of parts reading.unit)) (neighbour_term parts reading reading.zone) =
    near_terms parts reading reading.zone (slice_index zones) (sym agrees.unit) (λ i h. read_neighbour parts reading zones i agrees h) in
    let after : sum_by (near_by (edge_term_of parts) (slice_index (moved_plan zones reading.unit zone)) reading.unit) (neighbours_of parts reading.unit) ≡ sum_below (length (neighbours_of parts reading.unit)) (neighbour_term parts reading zone) =
    near_terms parts reading zone (slice_index (moved_plan zones reading.unit zone)) (moved-own zones reading.unit zone inside)
    (λ i h. moved-other zones reading.unit zone (neighbour_at parts reading.unit i) (All-get_or (λ (neighbour : Neighbour). neighbour.unit ≡ reading.unit → ⊥) (neighbours_of parts reading.unit) i no_neighbour h (neighbours_of-others parts reading.unit valid)) ∙ read_neighbour parts reading zones i agrees h) in
    let own : edge_term_of parts (outer_at parts reading.unit) (slice_index zones reading.unit) parts.available ≡ edge_term_of parts (outer_at parts reading.unit) reading.zone parts.available = ap (λ k. edge_term_of parts (outer_at parts reading.unit) k parts.available) (sym agrees.unit) in
    omega (
      arith,
      boundary_of_plan-is parts zones,
      boundary_of_plan-is parts (moved_plan zones reading.unit zone),
      boundary_around-is parts reading reading.zone,
      boundary_around-is parts reading zone,
      pairs-moved parts zones reading.unit zone valid legal well.unit allowed,
      outer-moved parts zones reading.unit zone legal well.unit,
    )

-- ---- totals and penalty

moved_total-held : (parts : Parts) (reading : Reading) (zones : List ℕ) (zone i : ℕ) → IsWellFormed parts reading → IsLegalPlan parts zones → Agrees parts zones reading → i < length (touched_rows parts reading.unit)
    → held_of parts (moved_plan zones reading.unit zone) (slice_index (touched_rows parts reading.unit) i) ≡ moved_total parts reading zone i
unfolding moved_total
moved_total-held parts reading zones zone i well legal agrees h =
    let read : slice_index reading.totals.items i ≡ held_of parts zones (slice_index (touched_rows parts reading.unit) i) = ap (λ (ts : List ℕ). get_or ts i 0) agrees.totals ∙ get_or-map (held_of parts zones) (touched_rows parts reading.unit) i 0 0 h in
    let lost : gain_of parts (slice_index (touched_rows parts reading.unit) i) reading.unit reading.zone ≡ gain_of parts (slice_index (touched_rows parts reading.unit) i) reading.unit (slice_index zones reading.unit) = ap (gain_of parts (slice_index (touched_rows parts reading.unit) i) reading.unit) agrees.unit in
    omega (arith, held-moved parts zones reading.unit zone (slice_index (touched_rows parts reading.unit) i) legal well.unit)

pub moved_totals-held : (parts : Parts) (reading : Reading) (zones : List ℕ) (zone : ℕ) → IsWellFormed parts reading → IsLegalPlan parts zones → Agrees parts zones reading
    → moved_totals parts reading zone ≡ map (held_of parts (moved_plan zones reading.unit zone)) (touched_rows parts reading.unit)
unfolding moved_totals
moved_totals-held parts reading zones zone well legal agrees =
    sym (list_below-from (length (touched_rows parts reading.unit)) (moved_total parts reading zone) (map (held_of parts (moved_plan zones reading.unit zone)) (touched_rows parts reading.unit)) 0
    (length-map (touched_rows parts reading.unit) (held_of parts (moved_plan zones reading.unit zone)))
    (λ i h. get_or-map (held_of parts (moved_plan zones reading.unit zone)) (touched_rows parts reading.unit) i 0 0 h ∙ moved_total-held parts reading zones zone i well legal agrees h))

-- the penalties of the touched rows, of which a plan holds so much
penalty_around-held : (parts : Parts) (unit : ℕ) (zones totals : List ℕ) → totals ≡ map (held_of parts zones) (touched_rows parts unit) → penalty_around parts unit totals ≡ sum_by (near_penalty parts zones) (touched_rows parts unit)
unfolding penalty_around
penalty_around-held parts unit zones totals held =
    sum_below-same (length (touched_rows parts unit)) (λ i. penalty_term_of parts (slice_index (touched_rows parts unit) i) (slice_index totals i)) (λ i. near_penalty parts zones (get_or (touched_rows parts unit) i 0))
    (λ i h. ap (penalty_term_of parts (slice_index (touched_rows parts unit) i)) (ap (λ (ts : List ℕ). get_or ts i 0) held ∙ get_or-map (held_of parts zones) (touched_rows parts unit) i 0 0 h))
    ∙ sym (sum_by-places (near_penalty parts zones) (touched_rows parts unit) 0)

-- ---- the whole

-- what was counted round the unit for a move to the zone
pub record IsCounted (parts : Parts) (reading : Reading) (zone : ℕ) (judged : Judged) : Type 0 where
  pub unit : judged.unit ≡ reading.unit
  pub cost : judged.cost ≡ cost_growth parts reading zone
  pub boundary : judged.boundary ≡ boundary_growth parts reading zone
  pub penalty : judged.penalty ≡ penalty_growth parts reading zone
  pub change : judged.change ≡ judged.cost +ℤ judged.boundary +ℤ judged.penalty
  pub totals : judged.totals.items ≡ moved_totals parts reading zone

pub counted-difference : (parts : Parts) (reading : Reading) (zones : List ℕ) (zone : ℕ) (judged : Judged) → IsValid parts → IsWellFormed parts reading → IsTrue (is_allowed parts reading.unit zone) → IsCounted parts reading zone judged → IsLegalPlan parts zones → Agrees parts zones reading → IsDifference parts zones (moved_plan zones reading.unit zone) judged
counted-difference parts reading zones zone judged valid well allowed counted legal agrees =
    let after : List ℕ = moved_plan zones reading.unit zone in
    let totals : judged.totals.items ≡ map (held_of parts (moved_plan zones reading.unit zone)) (touched_rows parts reading.unit) = counted.totals ∙ moved_totals-held parts reading zones zone well legal agrees in
    let old_cost : cost_at parts reading.unit reading.zone ≡ cost_at parts reading.unit (slice_index zones reading.unit) = ap (cost_at parts reading.unit) agrees.unit in
    let cost : judged.cost ≡ pos (cost_of_plan parts after) -ℤ pos (cost_of_plan parts zones) =
    counted.cost ∙ crosswise (cost_of_plan parts after) (cost_of_plan parts zones) (cost_at parts reading.unit zone) (cost_at parts reading.unit reading.zone) (omega (arith, cost-moved parts zones reading.unit zone legal well.unit)) in
    let boundary : judged.boundary ≡ pos (boundary_of_plan parts after) -ℤ pos (boundary_of_plan parts zones) =
    counted.boundary ∙ crosswise (boundary_of_plan parts after) (boundary_of_plan parts zones) (boundary_around parts reading zone) (boundary_around parts reading reading.zone) (boundary-moved parts reading zones zone valid well allowed legal agrees) in
    let penalty : judged.penalty ≡ pos (penalty_of_plan parts after) -ℤ pos (penalty_of_plan parts zones) =
    counted.penalty ∙ crosswise (penalty_of_plan parts after) (penalty_of_plan parts zones) (penalty_moved parts reading zone) (penalty_read parts reading)
    (omega (arith, penalty-moved parts zones reading.unit zone valid legal well.unit allowed, penalty_around-held parts reading.unit zones reading.totals.items agrees.totals, penalty_around-held parts reading.unit (moved_plan zones reading.unit zone) (moved_totals parts reading zone) (moved_totals-held parts reading zones zone well legal agrees))) in
    record {
      cost = cost;
      boundary = boundary;
      penalty = penalty;
      change = counted.change;
      total = sum_of_differences (cost_of_plan parts zones) (boundary_of_plan parts zones) (penalty_of_plan parts zones) (cost_of_plan parts after) (boundary_of_plan parts after) (penalty_of_plan parts after) judged.cost judged.boundary judged.penalty judged.change cost boundary penalty counted.change;
      totals = totals ∙ ap (λ unit. map (held_of parts (moved_plan zones reading.unit zone)) (touched_rows parts unit)) (sym counted.unit);
    }
