-- Laws of the target rows that a unit touches.
use Rattle.std.proofs.Common.{◌≡◌, ℕ, ◌<◌, ◌≤◌, ◌^◌, List, length, get_or, ap, sym, ◌∙◌, inl, inr, arith}
use Rattle.std.specs.Prelude.{nat_lt}
use Rattle.std.specs.declared.cmp.Ordering.TheVariants.{Less, Equal, Greater}
use Rattle.std.specs.List.Sorted.{IsNonDecreasingBy, IsPartitionPoint}
use Rattle.std.specs.Ordering.{nat_cmp, ordering_index}
use Rattle.std.proofs.lemmas.Bool.{cases_Bool, cases_lt, ltb-false}
use Rattle.std.proofs.lemmas.Bool.Decides.{nat_tests}
use Rattle.std.specs.List.{All, AllPairs, Contains, HoldsAt}
use Rattle.std.proofs.lemmas.List.{length-map, get_or-map, get_or_default}
use Rattle.std.proofs.lemmas.List.Elements.{All-map, All-get_or}
use Rattle.mz_model.specs.declared.parts.Parts.{Parts}
use Rattle.mz_model.specs.declared.touch.Touch.{Touch}
use Rattle.mz_model.specs.Parts.{unit_count, zone_count, target_count}
use Rattle.mz_num.specs.Places.{greatest_below}
use Rattle.mz_model.specs.Targets.{amount_for, as_touch, gain_from, gain_of, is_touched, no_touch, touched_rows, touches_of}
use Rattle.mz_model.specs.Valid.{IsValid}
use Rattle.mz_model.proofs.LimitLaws.{gain_of-le}
use Rattle.mz_model.proofs.TargetLaws.{gain_of-is}
use Rattle.mz_num.proofs.PlaceLaws.{length-places_below, places_below-in_range, places_below-has, places_below-rising, at-le-greatest_below}

pub touched_rows-in_range : (parts : Parts) (unit : ℕ) → All (λ row. row < target_count parts) (touched_rows parts unit)
unfolding touched_rows
touched_rows-in_range parts unit = places_below-in_range (target_count parts) (is_touched parts unit)

pub length-touched_rows : (parts : Parts) (unit : ℕ) → length (touched_rows parts unit) ≤ target_count parts
unfolding touched_rows
length-touched_rows parts unit = length-places_below (target_count parts) (is_touched parts unit)

pub length-touches_of : (parts : Parts) (unit : ℕ) → length (touches_of parts unit) ≡ length (touched_rows parts unit)
unfolding touches_of
length-touches_of parts unit = length-map (touched_rows parts unit) (λ row. as_touch row (amount_for parts row unit))

pub touches_of-in_range : (parts : Parts) (unit : ℕ) → All (λ touch. touch.row < target_count parts) (touches_of parts unit)
unfolding touches_of
touches_of-in_range parts unit = All-map (λ touch. touch.row < target_count parts) (λ row. as_touch row (amount_for parts row unit)) (touched_rows parts unit) (touched_rows-in_range parts unit)

-- the entry at a place: the row, and the unit's amount for it
pub get_or-touches_of : (parts : Parts) (unit i : ℕ) (d : Touch) → i < length (touched_rows parts unit) → get_or (touches_of parts unit) i d ≡ as_touch (get_or (touched_rows parts unit) i 0) (amount_for parts (get_or (touched_rows parts unit) i 0) unit)
unfolding touches_of
get_or-touches_of parts unit i d h = get_or-map (λ row. as_touch row (amount_for parts row unit)) (touched_rows parts unit) i 0 d h

-- the gain by the entry at a place
pub gain_from-touch : (parts : Parts) (unit i zone : ℕ) (touches : List Touch) → touches ≡ touches_of parts unit → i < length (touched_rows parts unit) → gain_from parts (get_or touches i no_touch).row (get_or touches i no_touch).amount zone ≡ gain_of parts (get_or (touched_rows parts unit) i 0) unit zone
gain_from-touch parts unit i zone touches e h =
    let entry : get_or touches i no_touch ≡ as_touch (get_or (touched_rows parts unit) i 0) (amount_for parts (get_or (touched_rows parts unit) i 0) unit) = ap (λ ts. get_or ts i no_touch) e ∙ get_or-touches_of parts unit i no_touch h in
    ap (λ (touch : Touch). gain_from parts touch.row touch.amount zone) entry ∙ sym (gain_of-is parts (get_or (touched_rows parts unit) i 0) unit zone)

-- it is within the limit
pub gain_of-touched-le : (parts : Parts) (unit i zone : ℕ) → IsValid parts → unit < unit_count parts → zone < zone_count parts → i < length (touched_rows parts unit) → gain_of parts (get_or (touched_rows parts unit) i 0) unit zone ≤ 10 ^ 18
gain_of-touched-le parts unit i zone valid u z h = gain_of-le parts (get_or (touched_rows parts unit) i 0) unit zone valid (All-get_or (λ row. row < target_count parts) (touched_rows parts unit) i 0 h (touched_rows-in_range parts unit)) u z

-- ---- the search for a row

equal-row : (a b : ℕ) → nat_cmp a b ≡ Equal → a ≡ b
equal-row a b e = grind (arith, nat_tests)

not-less : (a b : ℕ) → a ≡ b → nat_cmp a b ≡ Less → ⊥
not-less a b e less = grind (arith, nat_tests)

not-greater : (a b : ℕ) → a ≡ b → nat_cmp a b ≡ Greater → ⊥
not-greater a b e greater = grind (arith, nat_tests)

-- a row that isn't touched gains nothing
pub gain_of-untouched : (parts : Parts) (row unit zone : ℕ) → row < target_count parts → zone < zone_count parts → (Contains (touched_rows parts unit) row → ⊥) → gain_of parts row unit zone ≡ 0
unfolding touched_rows is_touched
gain_of-untouched parts row unit zone h z none =
    elim (cases_Bool (nat_lt 0 (greatest_below (zone_count parts) (gain_of parts row unit)))) [
      | inl touched ↦ absurd (none (places_below-has (target_count parts) row (is_touched parts unit) h touched))
      | inr not_touched ↦ (
          let nothing : greatest_below (zone_count parts) (gain_of parts row unit) ≤ 0 = ltb-false 0 (greatest_below (zone_count parts) (gain_of parts row unit)) not_touched in
          omega (arith, at-le-greatest_below (zone_count parts) zone (gain_of parts row unit) z))
    ]

touched_rows-rising : (parts : Parts) (unit : ℕ) → AllPairs (λ a b. a < b) (touched_rows parts unit)
unfolding touched_rows
touched_rows-rising parts unit = places_below-rising (target_count parts) (is_touched parts unit)

-- the row of an entry
touch-row : (parts : Parts) (unit i : ℕ) (d : Touch) (touches : List Touch) → touches ≡ touches_of parts unit → i < length touches → (get_or touches i d).row ≡ get_or (touched_rows parts unit) i 0
touch-row parts unit i d touches e h = ap (λ (touch : Touch). touch.row) (ap (λ (ts : List Touch). get_or ts i d) e ∙ get_or-touches_of parts unit i d (omega (arith, ap length e, length-touches_of parts unit)))

order-mono : (a b t : ℕ) → a ≤ b → ordering_index (nat_cmp a t) ≤ ordering_index (nat_cmp b t)
order-mono a b t h = grind (arith, nat_tests)

-- the entries are in the order of their rows, as a search asks
pub touches-searchable : (parts : Parts) (unit row : ℕ) (touches : List Touch) → touches ≡ touches_of parts unit → IsNonDecreasingBy (λ (touch : Touch). ordering_index (nat_cmp touch.row row)) touches
touches-searchable parts unit row touches e i j d order inside =
    order-mono (get_or touches i d).row (get_or touches j d).row row
    (elim (cases_lt i j) [
      | inl less ↦ omega (arith, touch-row parts unit i d touches e (omega arith), touch-row parts unit j d touches e inside, touched_rows-rising parts unit i j 0 less (omega (arith, ap length e, length-touches_of parts unit)))
      | inr same ↦ (let at : i ≡ j = omega arith in omega (arith, ap (λ k. (get_or touches k d).row) at))
    ])

-- what was found is the row
pub found-row : (parts : Parts) (unit row i : ℕ) (touches : List Touch) → touches ≡ touches_of parts unit → i < length touches → HoldsAt (λ (touch : Touch). nat_cmp touch.row row ≡ Equal) touches i → get_or (touched_rows parts unit) i 0 ≡ row
found-row parts unit row i touches e h at = sym (touch-row parts unit i no_touch touches e h) ∙ equal-row (get_or touches i no_touch).row row (at no_touch)

-- where all rows are before it or behind it, it isn't there
pub no-row : (parts : Parts) (unit row i : ℕ) (touches : List Touch) → touches ≡ touches_of parts unit → IsPartitionPoint (λ (touch : Touch). nat_cmp touch.row row ≡ Less) (λ (touch : Touch). nat_cmp touch.row row ≡ Greater) touches i → Contains (touched_rows parts unit) row → ⊥
no-row parts unit row i touches e parted (k, inside, here) =
    let near : k < length touches = omega (arith, ap length e, length-touches_of parts unit) in
    let at : (get_or touches k no_touch).row ≡ row = touch-row parts unit k no_touch touches e near ∙ get_or_default (touched_rows parts unit) k 0 row inside ∙ here in
    elim (cases_lt k i) [
      | inl before ↦ not-less (get_or touches k no_touch).row row at (parted.0 k no_touch (omega arith) before)
      | inr behind ↦ not-greater (get_or touches k no_touch).row row at (parted.1 k no_touch behind near)
    ]
