-- A look: the loads of a reading's items, and what they leave of a pass.
use Rattle.std.proofs.Common.{◌≡◌, ℕ, ◌+◌, ◌<◌, ◌≤◌, List, [], ◌∷◌, ◌++◌, length, get_or, take, sym, ap, ◌∙◌, subst, arith, inl, inr}
use Rattle.std.specs.Prelude.{IsTrue, slice_index}
use Rattle.std.proofs.Math.Seq.{get_or-append_seam}
use Rattle.std.proofs.lemmas.Bool.Decides.{leb_tells}
use Rattle.std.proofs.lemmas.List.{get_or_append_left, get_or-map, get_or_default, length-map, length-take-le}
use Rattle.mz_board.specs.Chair.{ChairState, with_item}
use Rattle.mz_model.specs.declared.neighbour.Neighbour.{Neighbour}
use Rattle.mz_model.specs.declared.parts.Parts.{Parts}
use Rattle.mz_model.specs.declared.touch.Touch.{Touch}
use Rattle.mz_model.specs.Boundary.{neighbours_of, no_neighbour}
use Rattle.mz_model.specs.Parts.{unit_count}
use Rattle.mz_model.specs.Targets.{touched_rows, touches_of}
use Rattle.mz_model.specs.Zones.{is_allowed}
use Rattle.mz_model.proofs.TouchLaws.{length-touches_of}
use Rattle.mz_delta.specs.Reading.{neighbour_at}
use Rattle.mz_delta.specs.Rooms.{greatest_degree, greatest_touched}
use Rattle.mz_delta.proofs.RoomLaws.{degree-le, touched-le}
use Rattle.mz_state.proofs.MoveRowLaws.{row-at}
use Rattle.mz_store.specs.Loads.{AreZonesAround, places_around, rows_of}
use Rattle.mz_store.proofs.LoadLaws.{HasLoaded, loaded-all, loaded-more}

-- ---- rooms

pub room-left : {E S : Type 0} (old now : ChairState E S) (words values : List ℕ) (i most room room' : ℕ) → HasLoaded old now (take i words) values → i < length words → length words ≤ most → most ≤ room → room ≤ room' → length values < room'
room-left old now words values i most room room' so_far within few fits kept = omega (arith, so_far.count, length-take-le i words (omega arith))

pub few-neighbours : (parts : Parts) (unit : ℕ) → unit < unit_count parts → length (places_around parts unit) ≤ greatest_degree parts
few-neighbours parts unit within = omega (arith, degree-le parts unit within, length-map (neighbours_of parts unit) (λ (n : Neighbour). n.unit))

pub few-rows : (parts : Parts) (unit : ℕ) → unit < unit_count parts → length (rows_of parts unit) ≤ greatest_touched parts
few-rows parts unit within = omega (arith, touched-le parts unit within, length-map (touched_rows parts unit) (λ (row : ℕ). unit_count parts + row))

-- ---- neighbours

pub near-count : (parts parts' : Parts) (unit i : ℕ) (near : List Neighbour) → parts' ≡ parts → near ≡ neighbours_of parts' unit → i < length near → i < length (places_around parts unit)
near-count parts parts' unit i near same are within =
    omega (arith, within, ap length (are ∙ ap (λ p. neighbours_of p unit) same), length-map (neighbours_of parts unit) (λ (n : Neighbour). n.unit))

near-place : (parts parts' : Parts) (unit i : ℕ) (near : List Neighbour) (d : Neighbour) → parts' ≡ parts → near ≡ neighbours_of parts' unit → i < length near → (get_or near i d).unit ≡ neighbour_at parts unit i
near-place parts parts' unit i near d same are within =
    let are' : near ≡ neighbours_of parts unit = are ∙ ap (λ p. neighbours_of p unit) same in
    subst (λ (ns : List Neighbour). (get_or near i d).unit ≡ (get_or ns i no_neighbour).unit) are' (ap (λ (n : Neighbour). n.unit) (get_or_default near i d no_neighbour within))

near-word : (parts : Parts) (unit i : ℕ) → i < length (neighbours_of parts unit) → neighbour_at parts unit i ≡ get_or (places_around parts unit) i 0
near-word parts unit i within = sym (get_or-map (λ (n : Neighbour). n.unit) (neighbours_of parts unit) i no_neighbour 0 within)

allowed-more : (parts : Parts) (unit i zone : ℕ) (zones zones' : List ℕ) → length zones ≡ i → ((k : ℕ) → k < i → IsTrue (is_allowed parts (neighbour_at parts unit k) (slice_index zones k))) → IsTrue (is_allowed parts (neighbour_at parts unit i) zone) → zones' ≡ zones ++ zone ∷ []
    → (k : ℕ) → k < i + 1 → IsTrue (is_allowed parts (neighbour_at parts unit k) (slice_index zones' k))
allowed-more parts unit i zone zones zones' count before here pushed k h = elim (leb_tells i k) [
  | inl (_, past) ↦
      let at : k ≡ i = omega arith in
      let last : slice_index zones' i ≡ zone = ap (λ (zs : List ℕ). get_or zs i 0) pushed ∙ ap (λ n. get_or (zones ++ zone ∷ []) n 0) (sym count) ∙ get_or-append_seam zones zone [] 0 in
      subst (λ n. IsTrue (is_allowed parts (neighbour_at parts unit n) (slice_index zones' n))) (sym at) (subst (λ z. IsTrue (is_allowed parts (neighbour_at parts unit i) z)) (sym last) here)
  | inr (_, below) ↦
      let same : slice_index zones' k ≡ slice_index zones k = ap (λ (zs : List ℕ). get_or zs k 0) pushed ∙ get_or_append_left zones (zone ∷ []) 0 k (omega (arith, count)) in
      subst (λ z. IsTrue (is_allowed parts (neighbour_at parts unit k) z)) (sym same) (before k below)
]

module _ {E S : Type 0} where
  pub next-zone : (parts parts' : Parts) (unit i zone : ℕ) (near : List Neighbour) (d : Neighbour) (old now new : ChairState E S) (zones zones' : List ℕ) (room0 room room' : ℕ) → parts' ≡ parts → near ≡ neighbours_of parts' unit → i < length near
      → HasLoaded old now (take i (places_around parts unit)) zones → ((k : ℕ) → k < i → IsTrue (is_allowed parts (neighbour_at parts unit k) (slice_index zones k))) → room0 ≤ room
      → IsTrue (is_allowed parts (get_or near i d).unit zone) → new ≡ with_item now (get_or near i d).unit zone → zones' ≡ zones ++ zone ∷ [] → room' ≡ room
      → HasLoaded old new (take (i + 1) (places_around parts unit)) zones' × ((k : ℕ) → k < i + 1 → IsTrue (is_allowed parts (neighbour_at parts unit k) (slice_index zones' k))) × (room0 ≤ room')
  next-zone parts parts' unit i zone near d old now new zones zones' room0 room room' same are within so_far allowed kept here loads pushed stays =
      let place = near-place parts parts' unit i near d same are within in
      let inside = near-count parts parts' unit i near same are within in
      let inside' : i < length (neighbours_of parts unit) = omega (arith, within, ap length (are ∙ ap (λ p. neighbours_of p unit) same)) in
      let count : length zones ≡ i = so_far.count ∙ length-take-le i (places_around parts unit) (omega (arith, inside)) in (
        loaded-more old now new (places_around parts unit) zones zones' i (get_or near i d).unit zone so_far inside (place ∙ near-word parts unit i inside') loads pushed,
        allowed-more parts unit i zone zones zones' count allowed (subst (λ u. IsTrue (is_allowed parts u zone)) place here) pushed,
        omega (arith, stays),
      )

  pub all-zones : (parts parts' : Parts) (unit i : ℕ) (near : List Neighbour) (old now : ChairState E S) (zones : List ℕ) → parts' ≡ parts → near ≡ neighbours_of parts' unit → length near ≤ i
      → HasLoaded old now (take i (places_around parts unit)) zones → HasLoaded old now (places_around parts unit) zones
  all-zones parts parts' unit i near old now zones same are past so_far =
      loaded-all old now (places_around parts unit) zones i so_far (omega (arith, past, ap length (are ∙ ap (λ p. neighbours_of p unit) same), length-map (neighbours_of parts unit) (λ (n : Neighbour). n.unit)))

  pub zones-around : (parts parts' : Parts) (unit i : ℕ) (near : List Neighbour) (old now : ChairState E S) (zones : List ℕ) → parts' ≡ parts → near ≡ neighbours_of parts' unit → length near ≤ i → i ≤ length near
      → HasLoaded old now (take i (places_around parts unit)) zones → ((k : ℕ) → k < i → IsTrue (is_allowed parts (neighbour_at parts unit k) (slice_index zones k))) → AreZonesAround parts unit zones
  zones-around parts parts' unit i near old now zones same are past few so_far allowed =
      let whole : length near ≡ length (neighbours_of parts unit) = ap length (are ∙ ap (λ p. neighbours_of p unit) same) in record {
        count = (all-zones parts parts' unit i near old now zones same are past so_far).count ∙ length-map (neighbours_of parts unit) (λ (n : Neighbour). n.unit);
        allowed = λ k h. allowed k (omega (arith, whole, past));
      }

  -- ---- target rows

  pub next-total : (parts parts' : Parts) (unit i total : ℕ) (touches : List Touch) (d : Touch) (old now new : ChairState E S) (totals totals' : List ℕ) → parts' ≡ parts → touches ≡ touches_of parts' unit → i < length touches
      → HasLoaded old now (take i (rows_of parts unit)) totals → new ≡ with_item now (unit_count parts + (get_or touches i d).row) total → totals' ≡ totals ++ total ∷ [] → HasLoaded old new (take (i + 1) (rows_of parts unit)) totals'
  next-total parts parts' unit i total touches d old now new totals totals' same are within so_far loads pushed =
      let are' : touches ≡ touches_of parts unit = are ∙ ap (λ p. touches_of p unit) same in
      let inside : i < length (touched_rows parts unit) = omega (arith, within, ap length are', length-touches_of parts unit) in
      let word : unit_count parts + (get_or touches i d).row ≡ get_or (rows_of parts unit) i 0 = ap (λ r. unit_count parts + r) (row-at parts unit i touches d are' inside) ∙ sym (get_or-map (λ (row : ℕ). unit_count parts + row) (touched_rows parts unit) i 0 0 inside) in
      loaded-more old now new (rows_of parts unit) totals totals' i (unit_count parts + (get_or touches i d).row) total so_far (omega (arith, inside, length-map (touched_rows parts unit) (λ (row : ℕ). unit_count parts + row))) word loads pushed

  pub all-totals : (parts parts' : Parts) (unit i : ℕ) (touches : List Touch) (old now : ChairState E S) (totals : List ℕ) → parts' ≡ parts → touches ≡ touches_of parts' unit → length touches ≤ i
      → HasLoaded old now (take i (rows_of parts unit)) totals → HasLoaded old now (rows_of parts unit) totals
  all-totals parts parts' unit i touches old now totals same are past so_far =
      loaded-all old now (rows_of parts unit) totals i so_far (omega (arith, past, ap length (are ∙ ap (λ p. touches_of p unit) same), length-touches_of parts unit, length-map (touched_rows parts unit) (λ (row : ℕ). unit_count parts + row)))

pub touch-count : (parts parts' : Parts) (unit i : ℕ) (touches : List Touch) → parts' ≡ parts → touches ≡ touches_of parts' unit → i < length touches → i < length (rows_of parts unit)
touch-count parts parts' unit i touches same are within =
    omega (arith, within, ap length (are ∙ ap (λ p. touches_of p unit) same), length-touches_of parts unit, length-map (touched_rows parts unit) (λ (row : ℕ). unit_count parts + row))
