-- Laws of allowed zones and free units.
use Rattle.std.proofs.Common.{◌≡◌, ℕ, ◌+◌, ◌%◌, ◌^◌, ◌<◌, ◌≤◌, true, false, List, [], ◌++◌, ◌∷◌, length, get_or, map, take, refl, ap, sym, ◌∙◌, subst, arith, inl, inr, ◌==◌}
use Rattle.std.specs.Prelude.{IsTrue}
use Rattle.std.specs.Int.{bit_at}
use Rattle.std.specs.List.{All, Contains, position_or_len}
use Rattle.std.proofs.lemmas.Bool.{cases_lt, eqb-true, ne_eqb, ltb-true, lt-ltb, le-ltb}
use Rattle.std.proofs.lemmas.List.{length-map, map_more, take_all}
use Rattle.std.proofs.lemmas.List.Elements.{All-get_or, All-map, All-same, All-weaker}
use Rattle.std.proofs.lemmas.Nat.{mod_below}
use Rattle.std.proofs.lemmas.Nat.Bits.{bit_at_above}
use Rattle.mz_model.specs.declared.parts.Parts.{Parts}
use Rattle.mz_model.proofs.ZoneRank.{position-places_below}
use Rattle.mz_model.specs.Parts.{unit_count, zone_count}
use Rattle.mz_num.specs.Places.{places_below}
use Rattle.mz_num.specs.ZoneSet.{IsZoneSet}
use Rattle.mz_model.specs.Valid.{IsValid}
use Rattle.mz_model.specs.Zones.{is_allowed, allowed_zones, is_free, free_units, counts_of, round_from, step_of}
use Rattle.mz_num.proofs.PlaceLaws.{length-places_below, places_below-pass, places_below-in_range, places_below-has, position_or_len-Contains}

-- a zone of the set is a zone of the problem
pub zone-in_range : (zones set zone : ℕ) → IsZoneSet zones set → bit_at set zone ≡ 1 → zone < zones
zone-in_range zones set zone is bit =
    elim (cases_lt zone zones) [ inl below ↦ below | inr past ↦ absurd (omega (arith, bit_at_above set zones zone is.in_range past)) ]

-- no zone past the last bit of a word is in a set of one word
pub past_word : (set zone : ℕ) → set < 2 ^ 64 → 64 ≤ zone → (bit_at set zone == 1) ≡ false
past_word set zone small past = ne_eqb (bit_at set zone) 1 (λ same. omega (arith, bit_at_above set 64 zone small past))

-- an allowed zone is a zone of the problem
pub is_allowed-in_range : (parts : Parts) (unit zone : ℕ) → IsValid parts → unit < unit_count parts → IsTrue (is_allowed parts unit zone) → zone < zone_count parts
is_allowed-in_range parts unit zone valid h allowed = zone-in_range (zone_count parts) (get_or parts.allowed unit 0) zone (valid.shape.zone_sets unit h) (eqb-true (bit_at (get_or parts.allowed unit 0) zone) 1 allowed)

pub length-allowed_zones : (parts : Parts) (unit : ℕ) → length (allowed_zones parts unit) ≤ zone_count parts
unfolding allowed_zones
length-allowed_zones parts unit = length-places_below (zone_count parts) (is_allowed parts unit)

-- each of them is allowed, and a zone of the problem
pub allowed_zones-allowed : (parts : Parts) (unit : ℕ) → All (λ zone. IsTrue (is_allowed parts unit zone)) (allowed_zones parts unit)
unfolding allowed_zones
allowed_zones-allowed parts unit = places_below-pass (zone_count parts) (is_allowed parts unit)

pub allowed_zones-in_range : (parts : Parts) (unit : ℕ) → All (λ zone. zone < zone_count parts) (allowed_zones parts unit)
unfolding allowed_zones
allowed_zones-in_range parts unit = places_below-in_range (zone_count parts) (is_allowed parts unit)

-- an allowed zone stands among them
pub allowed_zones-has : (parts : Parts) (unit zone : ℕ) → zone < zone_count parts → IsTrue (is_allowed parts unit zone) → Contains (allowed_zones parts unit) zone
unfolding allowed_zones
allowed_zones-has parts unit zone h allowed = places_below-has (zone_count parts) zone (is_allowed parts unit) h allowed

pub free_units-in_range : (parts : Parts) → All (λ unit. unit < unit_count parts) (free_units parts)
unfolding free_units
free_units-in_range parts = places_below-in_range (unit_count parts) (is_free parts)

pub length-counts_of : (parts : Parts) → length (counts_of parts) ≡ length (free_units parts)
unfolding counts_of
length-counts_of parts = length-map (free_units parts) (λ unit. length (allowed_zones parts unit))

count_of_free : (parts : Parts) → All (λ unit. is_free parts unit ≡ true) (free_units parts)
unfolding free_units
count_of_free parts = places_below-pass (unit_count parts) (is_free parts)

free_count : (parts : Parts) (unit : ℕ) → zone_count parts ≤ 60 → is_free parts unit ≡ true → (2 ≤ length (allowed_zones parts unit)) × (length (allowed_zones parts unit) ≤ 60)
unfolding is_free
free_count parts unit few free =
    let more : 1 < length (allowed_zones parts unit) = ltb-true 1 (length (allowed_zones parts unit)) free in
    (omega arith, omega (arith, length-allowed_zones parts unit))

-- each free unit has 2 to 60 allowed zones
pub counts_of-in_range : (parts : Parts) → zone_count parts ≤ 60 → All (λ count. (2 ≤ count) × (count ≤ 60)) (counts_of parts)
unfolding counts_of
counts_of-in_range parts few =
    All-map (λ count. (2 ≤ count) × (count ≤ 60)) (λ unit. length (allowed_zones parts unit)) (free_units parts)
    (All-weaker (λ unit. is_free parts unit ≡ true) (λ unit. (2 ≤ length (allowed_zones parts unit)) × (length (allowed_zones parts unit) ≤ 60)) (λ unit free. free_count parts unit few free) (free_units parts) (count_of_free parts))

-- what a step needs and gives, over the unit's list of allowed zones
pub record IsStep (parts : Parts) (unit : ℕ) (zones : List ℕ) (zone : ℕ) : Type 0 where
  pub some_zone : 0 < length zones
  pub few : length zones ≤ 60
  pub place : position_or_len (λ k. k == zone) zones < length zones

pub step-fits : (parts : Parts) (unit zone : ℕ) (zones : List ℕ) → IsValid parts → unit < unit_count parts → IsTrue (is_allowed parts unit zone) → zones ≡ allowed_zones parts unit → IsStep parts unit zones zone
step-fits parts unit zone zones valid h allowed e =
    let there : Contains zones zone = subst (λ xs. Contains xs zone) (sym e) (allowed_zones-has parts unit zone (is_allowed-in_range parts unit zone valid h allowed) allowed) in
    let place : position_or_len (λ k. k == zone) zones < length zones = position_or_len-Contains zones zone there in
    let len : length zones ≡ length (allowed_zones parts unit) = ap length e in
    record { some_zone = omega arith; few = omega (arith, length-allowed_zones parts unit, valid.small.zones); place = place }

-- the place of a unit's zone, by how many zones of its set are lower
pub step-place : (parts : Parts) (unit zone set : ℕ) (zones : List ℕ) → IsValid parts → unit < unit_count parts → IsTrue (is_allowed parts unit zone) → set ≡ get_or parts.allowed unit 0 → zones ≡ allowed_zones parts unit → length (places_below zone (λ k. bit_at set k == 1)) ≡ position_or_len (λ k. k == zone) zones
unfolding allowed_zones
step-place parts unit zone set zones valid h allowed is e =
    ap (λ s. length (places_below zone (λ k. bit_at s k == 1))) is
    ∙ sym (ap (position_or_len (λ k. k == zone)) e ∙ position-places_below (zone_count parts) zone (is_allowed parts unit) (is_allowed-in_range parts unit zone valid h allowed) allowed)

-- where a step comes to
pub record IsStepTo (parts : Parts) (unit zone shift new : ℕ) : Type 0 where
  pub move : new ≡ step_of parts unit zone shift
  pub allowed : IsTrue (is_allowed parts unit new)
  pub in_range : new < zone_count parts

pub step-to : (parts : Parts) (unit zone shift place new : ℕ) (zones : List ℕ) → IsStep parts unit zones zone → zones ≡ allowed_zones parts unit → place ≡ position_or_len (λ k. k == zone) zones → new ≡ get_or zones ((place + shift) % length zones) 0 → IsStepTo parts unit zone shift new
unfolding step_of
step-to parts unit zone shift place new zones step e at here =
    let same : new ≡ round_from zones zone shift = here ∙ ap (λ p. get_or zones ((p + shift) % length zones) 0) at in
    let inside : (place + shift) % length zones < length zones = mod_below (place + shift) (length zones) step.some_zone in
    let all : All (λ z. IsTrue (is_allowed parts unit z)) zones = subst (λ zs. All (λ z. IsTrue (is_allowed parts unit z)) zs) (sym e) (allowed_zones-allowed parts unit) in
    let ranged : All (λ z. z < zone_count parts) zones = subst (λ zs. All (λ z. z < zone_count parts) zs) (sym e) (allowed_zones-in_range parts unit) in
    record {
      move = same ∙ ap (λ zs. round_from zs zone shift) e;
      allowed = subst (λ z. IsTrue (is_allowed parts unit z)) (sym here) (All-get_or (λ z. IsTrue (is_allowed parts unit z)) zones ((place + shift) % length zones) 0 inside all);
      in_range = subst (λ z. z < zone_count parts) (sym here) (All-get_or (λ z. z < zone_count parts) zones ((place + shift) % length zones) 0 inside ranged);
    }

-- the next zone of a step is allowed
pub step_of-allowed : (parts : Parts) (unit zone shift : ℕ) → IsValid parts → unit < unit_count parts → IsTrue (is_allowed parts unit zone) → IsStepTo parts unit zone shift (step_of parts unit zone shift)
unfolding step_of
step_of-allowed parts unit zone shift valid h allowed = step-to parts unit zone shift (position_or_len (λ k. k == zone) (allowed_zones parts unit)) (step_of parts unit zone shift) (allowed_zones parts unit) (step-fits parts unit zone (allowed_zones parts unit) valid h allowed refl) refl refl refl

-- ---- as they are found

pub is_free-many : (parts : Parts) (unit : ℕ) (zones : List ℕ) → zones ≡ allowed_zones parts unit → 1 < length zones → is_free parts unit ≡ true
unfolding is_free
is_free-many parts unit zones e many = lt-ltb 1 (length (allowed_zones parts unit)) (omega (arith, ap length e))

pub is_free-few : (parts : Parts) (unit : ℕ) (zones : List ℕ) → zones ≡ allowed_zones parts unit → length zones ≤ 1 → is_free parts unit ≡ false
unfolding is_free
is_free-few parts unit zones e few = le-ltb 1 (length (allowed_zones parts unit)) (omega (arith, ap length e))

pub free_units-is : (parts : Parts) (n : ℕ) (free : List ℕ) → n ≡ unit_count parts → free ≡ places_below n (is_free parts) → free ≡ free_units parts
unfolding free_units
free_units-is parts n free e found = found ∙ ap (λ m. places_below m (is_free parts)) e

pub counts_of-is : (parts : Parts) (free counts : List ℕ) (i : ℕ) → free ≡ free_units parts → length free ≤ i → counts ≡ map (λ unit. length (allowed_zones parts unit)) (take i free) → counts ≡ counts_of parts
unfolding counts_of
counts_of-is parts free counts i e all found = found ∙ ap (map (λ unit. length (allowed_zones parts unit))) (take_all i free all ∙ e)

pub counts-more : (parts : Parts) (free counts counts' : List ℕ) (i count : ℕ) (zones : List ℕ) → i < length free → counts ≡ map (λ unit. length (allowed_zones parts unit)) (take i free) → zones ≡ allowed_zones parts (get_or free i 0) → count ≡ length zones → counts' ≡ counts ++ count ∷ [] → counts' ≡ map (λ unit. length (allowed_zones parts unit)) (take (i + 1) free)
counts-more parts free counts counts' i count zones h now e len more = more ∙ ap (λ cs. cs ++ count ∷ []) now ∙ ap (λ n. map (λ unit. length (allowed_zones parts unit)) (take i free) ++ n ∷ []) (len ∙ ap length e) ∙ sym (map_more (λ unit. length (allowed_zones parts unit)) free i 0 h)

pub free-at : (parts : Parts) (free : List ℕ) (i : ℕ) → free ≡ free_units parts → i < length free → get_or free i 0 < unit_count parts
free-at parts free i e h = All-get_or (λ unit. unit < unit_count parts) free i 0 h (All-same (λ unit. unit < unit_count parts) free (free_units parts) e (free_units-in_range parts))

-- the list of a set's zones is the list of a unit's allowed zones
pub allowed_zones-is : (parts : Parts) (unit n set : ℕ) (zones : List ℕ) → n ≡ zone_count parts → set ≡ get_or parts.allowed unit 0 → zones ≡ places_below n (λ zone. bit_at set zone == 1) → zones ≡ allowed_zones parts unit
unfolding allowed_zones
allowed_zones-is parts unit n set zones e f found = found ∙ ap (λ m. places_below m (λ zone. bit_at set zone == 1)) e ∙ ap (λ s. places_below (zone_count parts) (λ zone. bit_at s zone == 1)) f
