-- Readings: their values by item, and the plans that they agree with.
use Rattle.std.proofs.Common.{◌≡◌, ℕ, zero, suc, false, List, [], ◌∷◌, ◌++◌, length, get_or, map, drop, take, refl, sym, ap, subst, ◌∙◌, arith, length-append}
use Rattle.std.specs.Prelude.{slice_index}
use Rattle.std.specs.List.{All, list_any, zip}
use Rattle.std.proofs.Math.Seq.{drop-append_seam, take-append_seam}
use Rattle.std.proofs.lemmas.List.{length-map}
use Rattle.mz_model.specs.declared.neighbour.Neighbour.{Neighbour}
use Rattle.mz_model.specs.declared.parts.Parts.{Parts}
use Rattle.mz_model.specs.Boundary.{neighbours_of}
use Rattle.mz_model.specs.Items.{Item, items_of, row_item, unit_item}
use Rattle.mz_model.specs.Targets.{held_of, touched_rows}
use Rattle.mz_delta.specs.declared.reading.Reading.{Reading}
use Rattle.mz_delta.specs.Reading.{Agrees, IsWellFormed, zones_around}
use Rattle.mz_history.specs.declared.entry.Entry.{Entry}
use Rattle.mz_history.specs.Items.{changes, value_in_plan, value_of_item}
use Rattle.mz_history.specs.Replay.{plan_of_history, Setting}
use Rattle.mz_state.specs.Looks.{IsRightFor}

-- ---- values by item

map-append : {X Y : Type 0} (f : X → Y) (xs ys : List X) → map f (xs ++ ys) ≡ map f xs ++ map f ys
map-append f [] ys = refl
map-append f (x ∷ xs) ys = ap (λ zs. f x ∷ zs) (map-append f xs ys)

map-map : {X Y Z : Type 0} (f : Y → Z) (g : X → Y) (xs : List X) → map f (map g xs) ≡ map (λ x. f (g x)) xs
map-map f g [] = refl
map-map f g (x ∷ xs) = ap (λ zs. f (g x) ∷ zs) (map-map f g xs)

-- the values of a unit's items in a plan, in order
abbrev pub plan_values : Parts → List ℕ → ℕ → List ℕ
plan_values parts plan unit = slice_index plan unit ∷ (zones_around parts plan unit ++ map (held_of parts plan) (touched_rows parts unit))

values-are : (parts : Parts) (plan : List ℕ) (unit : ℕ) → map (value_in_plan parts plan) (items_of parts unit) ≡ plan_values parts plan unit
unfolding items_of
values-are parts plan unit =
    ap (λ (zs : List ℕ). slice_index plan unit ∷ zs)
    (map-append (value_in_plan parts plan) (map (λ (n : Neighbour). unit_item n.unit) (neighbours_of parts unit)) (map row_item (touched_rows parts unit))
    ∙ ap (λ (zs : List ℕ). zs ++ map (value_in_plan parts plan) (map row_item (touched_rows parts unit))) (map-map (value_in_plan parts plan) (λ (n : Neighbour). unit_item n.unit) (neighbours_of parts unit))
    ∙ ap (λ (zs : List ℕ). zones_around parts plan unit ++ zs) (map-map (value_in_plan parts plan) row_item (touched_rows parts unit)))

abbrev pub values_of_reading : Reading → List ℕ
values_of_reading reading = reading.zone ∷ (reading.neighbours.items ++ reading.totals.items)

pub agreeing-values : (parts : Parts) (plan : List ℕ) (reading : Reading) → Agrees parts plan reading → values_of_reading reading ≡ map (value_in_plan parts plan) (items_of parts reading.unit)
agreeing-values parts plan reading agrees =
    ap (λ (z : ℕ). z ∷ (reading.neighbours.items ++ reading.totals.items)) agrees.unit
    ∙ ap (λ (zs : List ℕ). slice_index plan reading.unit ∷ (zs ++ reading.totals.items)) agrees.neighbours
    ∙ ap (λ (zs : List ℕ). slice_index plan reading.unit ∷ (zones_around parts plan reading.unit ++ zs)) agrees.totals
    ∙ sym (values-are parts plan reading.unit)

head-same : (x y : ℕ) (xs ys : List ℕ) → x ∷ xs ≡ y ∷ ys → x ≡ y
head-same x y xs ys e = ap (λ (zs : List ℕ). get_or zs 0 0) e

tail-same : (x y : ℕ) (xs ys : List ℕ) → x ∷ xs ≡ y ∷ ys → xs ≡ ys
tail-same x y xs ys e = ap (drop 1) e

pub values-agree : (parts : Parts) (plan : List ℕ) (reading : Reading) → IsWellFormed parts reading → values_of_reading reading ≡ map (value_in_plan parts plan) (items_of parts reading.unit) → Agrees parts plan reading
values-agree parts plan reading formed same =
    let whole : values_of_reading reading ≡ plan_values parts plan reading.unit = same ∙ values-are parts plan reading.unit in
    let rest = tail-same reading.zone (slice_index plan reading.unit) (reading.neighbours.items ++ reading.totals.items) (zones_around parts plan reading.unit ++ map (held_of parts plan) (touched_rows parts reading.unit)) whole in
    let count : length reading.neighbours.items ≡ length (zones_around parts plan reading.unit) = formed.degree ∙ sym (length-map (neighbours_of parts reading.unit) (λ (n : Neighbour). slice_index plan n.unit)) in record {
      unit = head-same reading.zone (slice_index plan reading.unit) _ _ whole;
      neighbours = sym (take-append_seam reading.neighbours.items reading.totals.items) ∙ ap (take (length reading.neighbours.items)) rest
          ∙ ap (λ (n : ℕ). take n (zones_around parts plan reading.unit ++ map (held_of parts plan) (touched_rows parts reading.unit))) count ∙ take-append_seam (zones_around parts plan reading.unit) _;
      totals = sym (drop-append_seam reading.neighbours.items reading.totals.items) ∙ ap (drop (length reading.neighbours.items)) rest
          ∙ ap (λ (n : ℕ). drop n (zones_around parts plan reading.unit ++ map (held_of parts plan) (touched_rows parts reading.unit))) count ∙ drop-append_seam (zones_around parts plan reading.unit) _;
    }

-- ---- items beside their values

paired : (P : Item × ℕ → Type 0) (f : Item → ℕ) (items : List Item) → All (λ item. P (item, f item)) items → All P (zip items (map f items))
paired P f [] all k d h = absurd (omega arith)
paired P f (item ∷ items) all zero d h = all 0 item (omega arith)
paired P f (item ∷ items) all (suc k) d h = paired P f items (λ i e g. all (suc i) e (omega arith)) k d (omega arith)

zip-all : (P : Item × ℕ → Type 0) (f : Item → ℕ) (items : List Item) (values : List ℕ) → values ≡ map f items → All (λ item. P (item, f item)) items → All P (zip items values)
zip-all P f items values same all = subst (λ (vs : List ℕ). All P (zip items vs)) (sym same) (paired P f items all)

zip-values : (f : Item → ℕ) (items : List Item) (values : List ℕ) → length values ≡ length items → All (λ (read : Item × ℕ). read.1 ≡ f read.0) (zip items values) → values ≡ map f items
zip-values f [] [] count all = refl
zip-values f [] (v ∷ vs) count all = absurd (omega arith)
zip-values f (item ∷ items) [] count all = absurd (omega arith)
zip-values f (item ∷ items) (v ∷ vs) count all =
    let own : v ≡ f item = all 0 (item, v) (omega arith) in
    ap (λ (n : ℕ). n ∷ vs) own ∙ ap (λ (ns : List ℕ). f item ∷ ns) (zip-values f items vs (omega arith) (λ k d h. all (suc k) d (omega arith)))

-- ---- readings that are right

-- a reading behind the whole history with which its plan agrees is right for it
pub agrees-right : (s : Setting) (history : List Entry) (reading : Reading) → reading.front ≡ length history → Agrees s.parts (plan_of_history s history) reading → IsRightFor s history reading
agrees-right s history reading whole agrees = record {
  seen = omega arith;
  current = zip-all (λ (read : Item × ℕ). list_any (λ entry. changes s.parts entry read.0) (drop reading.front history) ≡ false → read.1 ≡ value_of_item s history read.0) (value_of_item s history) (items_of s.parts reading.unit) (values_of_reading reading)
      (agreeing-values s.parts (plan_of_history s history) reading agrees) (λ k d h unchanged. refl);
}

values-count : (parts : Parts) (reading : Reading) → IsWellFormed parts reading → length (values_of_reading reading) ≡ length (items_of parts reading.unit)
unfolding items_of
values-count parts reading formed =
    let a = length-append reading.neighbours.items reading.totals.items in
    let b = length-append (map (λ (n : Neighbour). unit_item n.unit) (neighbours_of parts reading.unit)) (map row_item (touched_rows parts reading.unit)) in
    let m = length-map (neighbours_of parts reading.unit) (λ (n : Neighbour). unit_item n.unit) in let t = length-map (touched_rows parts reading.unit) row_item in
    omega (arith, formed.degree, formed.touched)

unchanged-values : (s : Setting) (history : List Entry) (front : ℕ) (items : List Item) (values : List ℕ) → All (λ item. list_any (λ entry. changes s.parts entry item) (drop front history) ≡ false) items
    → All (λ (read : Item × ℕ). list_any (λ entry. changes s.parts entry read.0) (drop front history) ≡ false → read.1 ≡ value_of_item s history read.0) (zip items values) → All (λ (read : Item × ℕ). read.1 ≡ value_of_item s history read.0) (zip items values)
unchanged-values s history front [] values still all k d h = absurd (omega arith)
unchanged-values s history front (item ∷ items) [] still all k d h = absurd (omega arith)
unchanged-values s history front (item ∷ items) (v ∷ vs) still all zero d h = all 0 (item, v) (omega arith) (still 0 item (omega arith))
unchanged-values s history front (item ∷ items) (v ∷ vs) still all (suc k) d h = unchanged-values s history front items vs (λ i e g. still (suc i) e (omega arith)) (λ i e g. all (suc i) e (omega arith)) k d (omega arith)

-- a reading that is right for a history agrees with its plan where no entry at its front or later changed an item of
-- its unit
pub right-agrees : (s : Setting) (history : List Entry) (reading : Reading) → IsWellFormed s.parts reading → IsRightFor s history reading
    → All (λ item. list_any (λ entry. changes s.parts entry item) (drop reading.front history) ≡ false) (items_of s.parts reading.unit) → Agrees s.parts (plan_of_history s history) reading
right-agrees s history reading formed right untouched =
    values-agree s.parts (plan_of_history s history) reading formed
    (zip-values (value_of_item s history) (items_of s.parts reading.unit) (values_of_reading reading) (values-count s.parts reading formed)
    (unchanged-values s history reading.front (items_of s.parts reading.unit) (values_of_reading reading) untouched right.current))
