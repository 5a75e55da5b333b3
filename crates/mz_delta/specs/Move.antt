-- The move of a reading's unit to a zone: what stands round the unit, in one of its zones.
use Rattle.std.specs.Prelude.{ℕ, ℤ, pos, ◌+◌, ◌-◌, ◌-ℤ◌, List, length, slice_index, slice_index_or}
use Rattle.mz_model.specs.declared.parts.Parts.{Parts}
use Rattle.mz_model.specs.Boundary.{edge_term_of, neighbours_of, no_neighbour}
use Rattle.mz_model.specs.Parts.{cost_at, outer_at}
use Rattle.mz_num.specs.Places.{list_below, sum_below}
use Rattle.mz_model.specs.Scores.{penalty_term_of}
use Rattle.mz_model.specs.Targets.{gain_of, touched_rows}
use Rattle.mz_delta.specs.declared.reading.Reading.{Reading}

-- the term of a unit's pair with its neighbour i, the unit in the zone and the neighbour in the read one
unfoldable pub neighbour_term : Parts → Reading → ℕ → ℕ → ℕ
neighbour_term parts reading zone i =
    let length_to = (slice_index_or (neighbours_of parts reading.unit) i no_neighbour).length in
    edge_term_of parts length_to zone (slice_index reading.neighbours.items i)

-- the boundary round a reading's unit in that zone: its pairs, and its outer length
unfoldable pub boundary_around : Parts → Reading → ℕ → ℕ
boundary_around parts reading zone =
    sum_below (length (neighbours_of parts reading.unit)) (neighbour_term parts reading zone)
    + edge_term_of parts (outer_at parts reading.unit) zone parts.available

-- the penalty of touched row i of a unit, of which so much is held
abbrev pub touched_penalty : Parts → ℕ → List ℕ → ℕ → ℕ
touched_penalty parts unit totals i =
    penalty_term_of parts (slice_index (touched_rows parts unit) i) (slice_index totals i)

-- the penalty of the rows that a unit touches, of which so much is held
unfoldable pub penalty_around : Parts → ℕ → List ℕ → ℕ
penalty_around parts unit totals = sum_below (length (touched_rows parts unit)) (touched_penalty parts unit totals)

-- what is held for touched row i once the reading's unit has the zone: the gain there more, and the gain in the read
-- zone less
unfoldable pub moved_total : Parts → Reading → ℕ → ℕ → ℕ
moved_total parts reading zone i =
    let row = slice_index (touched_rows parts reading.unit) i in
    let gained = gain_of parts row reading.unit zone in
    let lost = gain_of parts row reading.unit reading.zone in
    slice_index reading.totals.items i + gained - lost

unfoldable pub moved_totals : Parts → Reading → ℕ → List ℕ
moved_totals parts reading zone = list_below (length (touched_rows parts reading.unit)) (moved_total parts reading zone)

-- the penalty of the touched rows, of which as much is held as was read
abbrev pub penalty_read : Parts → Reading → ℕ
penalty_read parts reading = penalty_around parts reading.unit reading.totals.items

-- the penalty of the touched rows once the reading's unit has the zone
abbrev pub penalty_moved : Parts → Reading → ℕ → ℕ
penalty_moved parts reading zone = penalty_around parts reading.unit (moved_totals parts reading zone)

-- by how much each grows where the reading's unit gets the zone
abbrev pub cost_growth : Parts → Reading → ℕ → ℤ
cost_growth parts reading zone = pos (cost_at parts reading.unit zone) -ℤ pos (cost_at parts reading.unit reading.zone)

abbrev pub boundary_growth : Parts → Reading → ℕ → ℤ
boundary_growth parts reading zone =
    pos (boundary_around parts reading zone) -ℤ pos (boundary_around parts reading reading.zone)

abbrev pub penalty_growth : Parts → Reading → ℕ → ℤ
penalty_growth parts reading zone = pos (penalty_moved parts reading zone) -ℤ pos (penalty_read parts reading)
