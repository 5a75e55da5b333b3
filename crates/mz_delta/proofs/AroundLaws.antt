-- Laws of what stands round a reading's unit.
use Rattle.std.proofs.Common.{◌≡◌, ℕ, ◌+◌, ◌-◌, ◌<◌, ◌≤◌, ◌^◌, List, [], ◌∷◌, ◌++◌, length, get_or, refl, ap, sym, ◌∙◌, ◌*◌, subst, arith}
use Rattle.std.specs.Prelude.{pos, ◌-ℤ◌, IsTrue, slice_index}
use Rattle.std.proofs.lemmas.List.Elements.{All-get_or}
use Rattle.mz_model.specs.declared.neighbour.Neighbour.{Neighbour}
use Rattle.mz_model.specs.declared.parts.Parts.{Parts}
use Rattle.mz_model.specs.declared.touch.Touch.{Touch}
use Rattle.mz_model.specs.Boundary.{edge_term_of, neighbours_of, no_neighbour}
use Rattle.mz_model.specs.Parts.{unit_count, zone_count, outer_at, rate_at}
use Rattle.mz_num.specs.Places.{list_below, sum_below}
use Rattle.mz_model.specs.Scores.{penalty_term_of}
use Rattle.mz_model.specs.Targets.{gain_from, gain_of, held_after, no_touch, touched_rows, touches_of}
use Rattle.mz_model.specs.Valid.{IsValid}
use Rattle.mz_model.specs.Zones.{is_allowed}
use Rattle.mz_num.specs.Round.{round}
use Rattle.mz_model.proofs.LimitLaws.{edge_term_of-is}
use Rattle.mz_model.proofs.NeighbourLaws.{neighbours_of-in_range}
use Rattle.mz_num.proofs.PlaceLaws.{get_or-list_below, length-list_below, list_below-more, sum_below-same}
use Rattle.mz_model.proofs.TouchLaws.{gain_from-touch, gain_of-touched-le, get_or-touches_of, length-touches_of}
use Rattle.mz_model.proofs.ZoneLaws.{is_allowed-in_range}
use Rattle.mz_delta.specs.declared.reading.Reading.{Reading}
use Rattle.mz_delta.specs.Move.{boundary_around, moved_total, moved_totals, neighbour_term, penalty_around, penalty_moved, penalty_read, touched_penalty}
use Rattle.mz_delta.specs.Reading.{IsWellFormed, neighbour_at}
use Rattle.mz_delta.proofs.DifferenceLaws.{crosswise}

-- the read zone of a neighbour is one of the problem
pub neighbour-in_range : (parts : Parts) (reading : Reading) (neighbours : List Neighbour) (zones : List ℕ) (i : ℕ) → IsValid parts → IsWellFormed parts reading → neighbours ≡ neighbours_of parts reading.unit → zones ≡ reading.neighbours.items → i < length neighbours → get_or zones i 0 < zone_count parts
neighbour-in_range parts reading neighbours zones i valid well e f h =
    let inside : i < length (neighbours_of parts reading.unit) = subst (λ (ns : List Neighbour). i < length ns) e h in
    let unit : neighbour_at parts reading.unit i < unit_count parts = All-get_or (λ (neighbour : Neighbour). neighbour.unit < unit_count parts) (neighbours_of parts reading.unit) i no_neighbour inside (neighbours_of-in_range parts reading.unit valid) in
    subst (λ (zs : List ℕ). get_or zs i 0 < zone_count parts) (sym f) (is_allowed-in_range parts (neighbour_at parts reading.unit i) (get_or reading.neighbours.items i 0) valid unit (well.neighbours i inside))

pub neighbour_term-is : (parts : Parts) (reading : Reading) (neighbours : List Neighbour) (zones : List ℕ) (zone i : ℕ) → neighbours ≡ neighbours_of parts reading.unit → zones ≡ reading.neighbours.items → edge_term_of parts (get_or neighbours i no_neighbour).length zone (get_or zones i 0) ≡ neighbour_term parts reading zone i
unfolding neighbour_term
neighbour_term-is parts reading neighbours zones zone i e f =
    ap (λ (ns : List Neighbour). edge_term_of parts (get_or ns i no_neighbour).length zone (get_or zones i 0)) e
    ∙ ap (λ (zs : List ℕ). edge_term_of parts (get_or (neighbours_of parts reading.unit) i no_neighbour).length zone (get_or zs i 0)) f

pub neighbours-all : (parts : Parts) (reading : Reading) (neighbours : List Neighbour) (i : ℕ) → i ≤ length neighbours → length neighbours ≤ i → neighbours ≡ neighbours_of parts reading.unit → i ≡ length (neighbours_of parts reading.unit)
neighbours-all parts reading neighbours i h g e = omega (arith, ap length e)

pub boundary_around-is : (parts : Parts) (reading : Reading) (zone i sum outer : ℕ) → i ≡ length (neighbours_of parts reading.unit) → sum ≡ sum_below i (neighbour_term parts reading zone) → outer ≡ edge_term_of parts (outer_at parts reading.unit) zone parts.available → sum + outer ≡ boundary_around parts reading zone
unfolding boundary_around
boundary_around-is parts reading zone i sum outer all terms last =
    let whole : sum ≡ sum_below (length (neighbours_of parts reading.unit)) (neighbour_term parts reading zone) = terms ∙ ap (λ n. sum_below n (neighbour_term parts reading zone)) all in
    omega arith

-- a length whose rate stays has the same term
pub edge_term-same : (parts : Parts) (len old new other a b : ℕ) → a ≡ rate_at parts old other → b ≡ rate_at parts new other → a ≡ b → edge_term_of parts len old other ≡ edge_term_of parts len new other
edge_term-same parts len old new other a b e f rates =
    edge_term_of-is parts len old other ∙ ap (λ r. round (len * r) 1000000) (sym e ∙ rates ∙ f) ∙ sym (edge_term_of-is parts len new other)

-- the terms of the outer length, of the length and the available zone as they were read
pub outer-change : (parts : Parts) (unit old new len other before after : ℕ) → len ≡ outer_at parts unit → other ≡ parts.available → after + edge_term_of parts len old other ≡ before + edge_term_of parts len new other
    → after + edge_term_of parts (outer_at parts unit) old parts.available ≡ before + edge_term_of parts (outer_at parts unit) new parts.available
outer-change parts unit old new len other before after e f change =
    let term : (k : ℕ) → edge_term_of parts len k other ≡ edge_term_of parts (outer_at parts unit) k parts.available = λ k. ap (λ n. edge_term_of parts n k other) e ∙ ap (edge_term_of parts (outer_at parts unit) k) f in
    omega (arith, term old, term new)

-- the change round a unit, from the terms that change
pub boundary_around-change : (parts : Parts) (reading : Reading) (old new i before after old_outer new_outer : ℕ) → i ≡ length (neighbours_of parts reading.unit) → after + sum_below i (neighbour_term parts reading old) ≡ before + sum_below i (neighbour_term parts reading new)
    → new_outer + edge_term_of parts (outer_at parts reading.unit) old parts.available ≡ old_outer + edge_term_of parts (outer_at parts reading.unit) new parts.available
    → pos (after + new_outer) -ℤ pos (before + old_outer) ≡ pos (boundary_around parts reading new) -ℤ pos (boundary_around parts reading old)
boundary_around-change parts reading old new i before after old_outer new_outer all change last =
    let was : sum_below i (neighbour_term parts reading old) + edge_term_of parts (outer_at parts reading.unit) old parts.available ≡ boundary_around parts reading old = boundary_around-is parts reading old i (sum_below i (neighbour_term parts reading old)) (edge_term_of parts (outer_at parts reading.unit) old parts.available) all refl refl in
    let is : sum_below i (neighbour_term parts reading new) + edge_term_of parts (outer_at parts reading.unit) new parts.available ≡ boundary_around parts reading new = boundary_around-is parts reading new i (sum_below i (neighbour_term parts reading new)) (edge_term_of parts (outer_at parts reading.unit) new parts.available) all refl refl in
    crosswise (boundary_around parts reading new) (boundary_around parts reading old) (after + new_outer) (before + old_outer) (omega arith)

-- the penalty of touched row i after the move
abbrev pub moved_penalty : Parts → Reading → ℕ → ℕ → ℕ
moved_penalty parts reading zone i = penalty_term_of parts (slice_index (touched_rows parts reading.unit) i) (moved_total parts reading zone i)

pub penalty_read-is : (parts : Parts) (reading : Reading) (i : ℕ) → i ≡ length (touched_rows parts reading.unit) → sum_below i (touched_penalty parts reading.unit reading.totals.items) ≡ penalty_read parts reading
unfolding penalty_around
penalty_read-is parts reading i all = ap (λ n. sum_below n (touched_penalty parts reading.unit reading.totals.items)) all

pub penalty_moved-is : (parts : Parts) (reading : Reading) (zone i : ℕ) → i ≡ length (touched_rows parts reading.unit) → sum_below i (moved_penalty parts reading zone) ≡ penalty_moved parts reading zone
unfolding penalty_around moved_totals
penalty_moved-is parts reading zone i all =
    let n : ℕ = length (touched_rows parts reading.unit) in
    ap (λ m. sum_below m (moved_penalty parts reading zone)) all
    ∙ sum_below-same n (moved_penalty parts reading zone) (touched_penalty parts reading.unit (list_below n (moved_total parts reading zone)))
    (λ k h. ap (penalty_term_of parts (slice_index (touched_rows parts reading.unit) k)) (sym (get_or-list_below n k (moved_total parts reading zone) 0 h)))

pub touches-all : (parts : Parts) (unit i : ℕ) (touches : List Touch) → touches ≡ touches_of parts unit → i ≤ length touches → length touches ≤ i → i ≡ length (touched_rows parts unit)
touches-all parts unit i touches e h g = omega (arith, ap length e, length-touches_of parts unit)

-- what a unit's amount for a row that it touches counts in a zone that it may have
pub record IsGain (parts : Parts) (unit i zone : ℕ) (touch : Touch) : Type 0 where
  pub is : gain_from parts touch.row touch.amount zone ≡ gain_of parts (slice_index (touched_rows parts unit) i) unit zone
  pub small : gain_from parts touch.row touch.amount zone ≤ 10 ^ 18

pub touch-gain : (parts : Parts) (unit i zone : ℕ) (touches : List Touch) → IsValid parts → unit < unit_count parts → IsTrue (is_allowed parts unit zone) → touches ≡ touches_of parts unit → i < length touches → IsGain parts unit i zone (get_or touches i no_touch)
touch-gain parts unit i zone touches valid u allowed e h =
    let inside : i < length (touched_rows parts unit) = omega (arith, ap length e, length-touches_of parts unit) in
    let is : gain_from parts (get_or touches i no_touch).row (get_or touches i no_touch).amount zone ≡ gain_of parts (slice_index (touched_rows parts unit) i) unit zone = gain_from-touch parts unit i zone touches e inside in
    record { is = is; small = subst (λ n. n ≤ 10 ^ 18) (sym is) (gain_of-touched-le parts unit i zone valid u (is_allowed-in_range parts unit zone valid u allowed) inside) }

-- what a well formed reading holds for a row that the unit touches
pub read_total-le : (parts : Parts) (reading : Reading) (i : ℕ) (held : List ℕ) (touches : List Touch) → IsWellFormed parts reading → held ≡ reading.totals.items → touches ≡ touches_of parts reading.unit → i < length touches → get_or held i 0 ≤ 10 ^ 18
read_total-le parts reading i held touches well e f h =
    subst (λ (ts : List ℕ). get_or ts i 0 ≤ 10 ^ 18) (sym e)
    (All-get_or (λ total. total ≤ 10 ^ 18) reading.totals.items i 0 (omega (arith, well.touched, ap length f, length-touches_of parts reading.unit)) well.totals)

-- a touched row as the walk over them meets it, with what was read of it
pub record IsMovedRow (parts : Parts) (reading : Reading) (zone i : ℕ) (touch : Touch) (held : ℕ) : Type 0 where
  pub row : touch.row ≡ slice_index (touched_rows parts reading.unit) i
  pub held_is : held ≡ slice_index reading.totals.items i
  pub held_small : held ≤ 10 ^ 18
  pub lost : gain_from parts touch.row touch.amount reading.zone ≤ 10 ^ 18
  pub gained : gain_from parts touch.row touch.amount zone ≤ 10 ^ 18
  pub total : held_after parts touch held reading.zone zone ≡ moved_total parts reading zone i

pub moved-row : (parts : Parts) (reading : Reading) (zone i : ℕ) (touches : List Touch) (held : List ℕ) → IsValid parts → IsWellFormed parts reading → IsTrue (is_allowed parts reading.unit zone) → touches ≡ touches_of parts reading.unit → held ≡ reading.totals.items → i < length touches → IsMovedRow parts reading zone i (get_or touches i no_touch) (get_or held i 0)
unfolding moved_total
moved-row parts reading zone i touches held valid well allowed e f h =
    let touch : Touch = get_or touches i no_touch in
    let inside : i < length (touched_rows parts reading.unit) = omega (arith, ap length e, length-touches_of parts reading.unit) in
    let gain : IsGain parts reading.unit i zone touch = touch-gain parts reading.unit i zone touches valid well.unit allowed e h in
    let loss : IsGain parts reading.unit i reading.zone touch = touch-gain parts reading.unit i reading.zone touches valid well.unit well.zone e h in
    record {
      row = ap (λ (t : Touch). t.row) (ap (λ (ts : List Touch). get_or ts i no_touch) e ∙ get_or-touches_of parts reading.unit i no_touch inside);
      held_is = ap (λ (ts : List ℕ). get_or ts i 0) f;
      held_small = read_total-le parts reading i held touches well f e h;
      lost = loss.small;
      gained = gain.small;
      total = ap (λ (ts : List ℕ). get_or ts i 0 + gain_from parts touch.row touch.amount zone - gain_from parts touch.row touch.amount reading.zone) f
          ∙ ap (λ n. get_or reading.totals.items i 0 + n - gain_from parts touch.row touch.amount reading.zone) gain.is
          ∙ ap (λ n. get_or reading.totals.items i 0 + gain_of parts (slice_index (touched_rows parts reading.unit) i) reading.unit zone - n) loss.is;
    }

-- the penalties of such a row
pub penalty-before : (parts : Parts) (reading : Reading) (zone i : ℕ) (touch : Touch) (held : ℕ) → IsMovedRow parts reading zone i touch held → penalty_term_of parts touch.row held ≡ touched_penalty parts reading.unit reading.totals.items i
penalty-before parts reading zone i touch held is =
    ap (λ r. penalty_term_of parts r held) is.row ∙ ap (penalty_term_of parts (slice_index (touched_rows parts reading.unit) i)) is.held_is

pub penalty-after : (parts : Parts) (reading : Reading) (zone i : ℕ) (touch : Touch) (held total : ℕ) → IsMovedRow parts reading zone i touch held → total ≡ held_after parts touch held reading.zone zone → penalty_term_of parts touch.row total ≡ moved_penalty parts reading zone i
penalty-after parts reading zone i touch held total is e =
    ap (λ r. penalty_term_of parts r total) is.row ∙ ap (penalty_term_of parts (slice_index (touched_rows parts reading.unit) i)) (e ∙ is.total)

-- the penalty of touched row i, as it was read
pub touched_penalty-is : (parts : Parts) (reading : Reading) (i : ℕ) (touches : List Touch) (held : List ℕ) → touches ≡ touches_of parts reading.unit → held ≡ reading.totals.items → i < length touches → penalty_term_of parts (get_or touches i no_touch).row (get_or held i 0) ≡ touched_penalty parts reading.unit reading.totals.items i
touched_penalty-is parts reading i touches held e f h =
    let inside : i < length (touched_rows parts reading.unit) = omega (arith, ap length e, length-touches_of parts reading.unit) in
    ap (λ (ts : List Touch). penalty_term_of parts (get_or ts i no_touch).row (get_or held i 0)) e
    ∙ ap (λ (touch : Touch). penalty_term_of parts touch.row (get_or held i 0)) (get_or-touches_of parts reading.unit i no_touch inside)
    ∙ ap (λ (ts : List ℕ). penalty_term_of parts (get_or (touched_rows parts reading.unit) i 0) (get_or ts i 0)) f

-- one total more
pub moved_totals-more : (parts : Parts) (reading : Reading) (zone i total : ℕ) (totals totals' : List ℕ) → totals ≡ list_below i (moved_total parts reading zone) → total ≡ moved_total parts reading zone i → totals' ≡ totals ++ total ∷ [] → totals' ≡ list_below (i + 1) (moved_total parts reading zone)
moved_totals-more parts reading zone i total totals totals' so_far is pushed =
    pushed ∙ ap (λ (xs : List ℕ). xs ++ total ∷ []) so_far ∙ ap (λ n. list_below i (moved_total parts reading zone) ++ n ∷ []) is ∙ sym (list_below-more i (moved_total parts reading zone))

pub moved_totals-is : (parts : Parts) (reading : Reading) (zone i : ℕ) (totals : List ℕ) → i ≡ length (touched_rows parts reading.unit) → totals ≡ list_below i (moved_total parts reading zone) → totals ≡ moved_totals parts reading zone
unfolding moved_totals
moved_totals-is parts reading zone i totals all so_far = so_far ∙ ap (λ n. list_below n (moved_total parts reading zone)) all

pub length-moved_totals : (parts : Parts) (reading : Reading) (zone : ℕ) → length (moved_totals parts reading zone) ≡ length (touched_rows parts reading.unit)
unfolding moved_totals
length-moved_totals parts reading zone = length-list_below (length (touched_rows parts reading.unit)) (moved_total parts reading zone)
