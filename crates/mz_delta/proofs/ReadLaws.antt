-- Laws of readings of a plan.
use Rattle.std.proofs.Common.{◌≡◌, ℕ, ◌<◌, ◌≤◌, ◌^◌, List, [], ◌∷◌, length, map, ◌++◌, ◌+◌, take, get_or, refl, ap, sym, ◌∙◌, subst, arith}
use Rattle.std.specs.Prelude.{IsTrue, slice_index}
use Rattle.std.specs.List.{All}
use Rattle.std.proofs.lemmas.List.{get_or-map, length-map, length-take-le, take_all}
use Rattle.std.proofs.lemmas.List.Elements.{All-get_or, All-head, All-map, All-tail, All-weaker}
use Rattle.mz_model.specs.declared.neighbour.Neighbour.{Neighbour}
use Rattle.mz_model.specs.declared.parts.Parts.{Parts}
use Rattle.mz_model.specs.declared.touch.Touch.{Touch}
use Rattle.mz_model.specs.Boundary.{neighbours_of, no_neighbour}
use Rattle.mz_model.specs.Parts.{unit_count, target_count}
use Rattle.mz_num.specs.Places.{list_below}
use Rattle.mz_model.specs.Plans.{IsLegalPlan}
use Rattle.mz_model.specs.Targets.{amount_for, as_touch, held_of, touched_rows, touches_of}
use Rattle.mz_model.specs.Valid.{IsValid}
use Rattle.mz_model.specs.Zones.{is_allowed}
use Rattle.mz_model.proofs.NeighbourLaws.{neighbours_of-in_range}
use Rattle.mz_num.proofs.PlaceLaws.{get_or-list_below, length-list_below, list_below-more}
use Rattle.mz_model.proofs.ScoreLaws.{plan-in_range}
use Rattle.mz_model.proofs.TargetLaws.{held_of-le}
use Rattle.mz_model.proofs.TouchLaws.{touched_rows-in_range}
use Rattle.mz_delta.specs.declared.reading.Reading.{Reading}
use Rattle.mz_delta.specs.Reading.{Agrees, IsReadingOf, IsWellFormed, neighbour_at, totals_of_plan, zones_around}

-- a list that is filled as far as another one has room for one item more
pub room-left : {X : Type 0} (f : X → ℕ) (xs : List X) (items : List ℕ) (i most room : ℕ) → items ≡ map f (take i xs) → i < length xs → length xs ≤ most → most ≤ room → length items < room
room-left f xs items i most room e h g k = omega (arith, ap length e, length-map (take i xs) f, length-take-le i xs (omega arith))

-- two functions that agree on each item of a list give one list
map-alike : (P : ℕ → Type 0) (f g : ℕ → ℕ) (xs : List ℕ) → ((x : ℕ) → P x → f x ≡ g x) → All P xs → map f xs ≡ map g xs
map-alike P f g [] same all = refl
map-alike P f g (x ∷ xs) same all = ap (λ y. y ∷ map f xs) (same x (All-head P x xs all)) ∙ ap (λ ys. g x ∷ ys) (map-alike P f g xs same (All-tail P x xs all))

pub length-totals_of_plan : (parts : Parts) (zones totals : List ℕ) → totals ≡ totals_of_plan parts zones → length totals ≡ target_count parts
unfolding totals_of_plan
length-totals_of_plan parts zones totals e = ap length e ∙ length-list_below (target_count parts) (held_of parts zones)

pub totals_of_plan-at : (parts : Parts) (zones totals : List ℕ) (row : ℕ) → totals ≡ totals_of_plan parts zones → row < target_count parts → slice_index totals row ≡ held_of parts zones row
unfolding totals_of_plan
totals_of_plan-at parts zones totals row e h = ap (λ (ts : List ℕ). get_or ts row 0) e ∙ get_or-list_below (target_count parts) row (held_of parts zones) 0 h

pub totals_of_plan-more : (parts : Parts) (zones totals totals' : List ℕ) (row held : ℕ) → totals ≡ list_below row (held_of parts zones) → held ≡ held_of parts zones row → totals' ≡ totals ++ held ∷ [] → totals' ≡ list_below (row + 1) (held_of parts zones)
totals_of_plan-more parts zones totals totals' row held so_far is pushed = pushed ∙ ap (λ (xs : List ℕ). xs ++ held ∷ []) so_far ∙ ap (λ n. list_below row (held_of parts zones) ++ n ∷ []) is ∙ sym (list_below-more row (held_of parts zones))

pub totals_of_plan-all : (parts : Parts) (zones totals : List ℕ) (row : ℕ) → row ≡ target_count parts → totals ≡ list_below row (held_of parts zones) → totals ≡ totals_of_plan parts zones
unfolding totals_of_plan
totals_of_plan-all parts zones totals row all so_far = so_far ∙ ap (λ n. list_below n (held_of parts zones)) all

-- of touched rows with amounts the rows alone
map-firsts : (f g : ℕ → ℕ) (rows : List ℕ) → map (λ (touch : Touch). f touch.row) (map (λ row. as_touch row (g row)) rows) ≡ map f rows
map-firsts f g [] = refl
map-firsts f g (row ∷ rows) = ap (λ ys. f row ∷ ys) (map-firsts f g rows)

-- the totals of all touched rows were read
pub touched_totals-all : (parts : Parts) (unit i : ℕ) (totals read : List ℕ) (touches : List Touch) → touches ≡ touches_of parts unit → length touches ≤ i → read ≡ map (λ (touch : Touch). slice_index totals touch.row) (take i (touches_of parts unit)) → read ≡ map (slice_index totals) (touched_rows parts unit)
unfolding touches_of
touched_totals-all parts unit i totals read touches e h so_far =
    so_far ∙ ap (map (λ (touch : Touch). slice_index totals touch.row)) (take_all i (touches_of parts unit) (subst (λ (ts : List Touch). length ts ≤ i) e h))
    ∙ map-firsts (slice_index totals) (λ row. amount_for parts row unit) (touched_rows parts unit)

-- what was read of the unit and its items
pub record IsRead (parts : Parts) (zones held : List ℕ) (reading : Reading) : Type 0 where
  pub unit : reading.unit < unit_count parts
  pub zone : reading.zone ≡ slice_index zones reading.unit
  pub neighbours : reading.neighbours.items ≡ zones_around parts zones reading.unit
  pub totals : reading.totals.items ≡ map (slice_index held) (touched_rows parts reading.unit)

pub read-agrees : (parts : Parts) (zones totals : List ℕ) (reading : Reading) → totals ≡ totals_of_plan parts zones → IsRead parts zones totals reading → Agrees parts zones reading
read-agrees parts zones totals reading are read = record {
  unit = read.zone;
  neighbours = read.neighbours;
  totals = read.totals ∙ map-alike (λ row. row < target_count parts) (slice_index totals) (held_of parts zones) (touched_rows parts reading.unit) (λ row h. totals_of_plan-at parts zones totals row are h) (touched_rows-in_range parts reading.unit);
}

-- a reading with which a legal plan agrees is well formed
pub agrees-well_formed : (parts : Parts) (zones : List ℕ) (reading : Reading) → IsValid parts → IsLegalPlan parts zones → reading.unit < unit_count parts → Agrees parts zones reading → IsWellFormed parts reading
agrees-well_formed parts zones reading valid legal h agrees =
    let zone_of : Neighbour → ℕ = λ neighbour. slice_index zones neighbour.unit in
    record {
      unit = h;
      zone = subst (λ zone. IsTrue (is_allowed parts reading.unit zone)) (sym agrees.unit) (legal.allowed reading.unit h);
      degree = ap length agrees.neighbours ∙ length-map (neighbours_of parts reading.unit) zone_of;
      neighbours = λ i g. subst (λ zone. IsTrue (is_allowed parts (neighbour_at parts reading.unit i) zone))
          (sym (ap (λ (zs : List ℕ). get_or zs i 0) agrees.neighbours ∙ get_or-map zone_of (neighbours_of parts reading.unit) i no_neighbour 0 g))
          (legal.allowed (neighbour_at parts reading.unit i) (All-get_or (λ (neighbour : Neighbour). neighbour.unit < unit_count parts) (neighbours_of parts reading.unit) i no_neighbour g (neighbours_of-in_range parts reading.unit valid)));
      touched = ap length agrees.totals ∙ length-map (touched_rows parts reading.unit) (held_of parts zones);
      totals = subst (All (λ total. total ≤ 10 ^ 18)) (sym agrees.totals)
          (All-map (λ total. total ≤ 10 ^ 18) (held_of parts zones) (touched_rows parts reading.unit)
          (All-weaker (λ row. row < target_count parts) (λ row. held_of parts zones row ≤ 10 ^ 18) (λ row g. held_of-le parts zones row valid g (λ unit k. plan-in_range parts zones unit valid legal k)) (touched_rows parts reading.unit) (touched_rows-in_range parts reading.unit)));
    }

pub read-reads : (parts : Parts) (zones totals : List ℕ) (place : ℕ) (old new : Reading) → IsValid parts → IsLegalPlan parts zones → totals ≡ totals_of_plan parts zones → new.seat ≡ old.seat → new.front ≡ old.front → new.unit ≡ place → IsRead parts zones totals new → IsReadingOf parts zones place old new
read-reads parts zones totals place old new valid legal are seat front unit read =
    let agrees : Agrees parts zones new = read-agrees parts zones totals new are read in
    record { seat = seat; front = front; unit = unit; well_formed = agrees-well_formed parts zones new valid legal read.unit agrees; agrees = agrees }
