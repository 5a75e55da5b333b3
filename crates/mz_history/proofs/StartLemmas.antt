-- The starting plan, unit by unit.
use Rattle.std.proofs.Common.{◌≡◌, ℕ, ◌+◌, ◌*◌, ◌<◌, ◌≤◌, ◌^◌, true, false, List, [], ◌∷◌, ◌++◌, length, get_or, refl, sym, ap, subst, ◌∙◌, arith, inl, inr, ◌/◌}
use Rattle.std.specs.Prelude.{IsTrue, slice_index}
use Rattle.std.specs.Int.{bit_at, trailing_zeros, w64}
use Rattle.std.specs.List.{All, Contains}
use Rattle.std.proofs.lemmas.Bool.{cases_eq, cond-true, cond-false, eq-eqb, le-ltb, lt-ltb}
use Rattle.std.proofs.lemmas.List.{append-nil}
use Rattle.std.proofs.lemmas.List.Elements.{All-get_or}
use Rattle.std.proofs.lemmas.Nat.Bits.{bit_at-trailing_zeros}
use Rattle.std.proofs.Math.Pow.{pow_mono}
use Rattle.mz_model.specs.declared.parts.Parts.{Parts}
use Rattle.mz_model.specs.Parts.{unit_count, zone_count}
use Rattle.mz_num.specs.Places.{list_below, places_below}
use Rattle.mz_model.specs.Plans.{IsLegalPlan}
use Rattle.mz_num.specs.ZoneSet.{IsZoneSet}
use Rattle.mz_model.specs.Valid.{IsValid}
use Rattle.mz_model.specs.Zones.{is_allowed, is_free, allowed_zones}
use Rattle.mz_num.proofs.PlaceLaws.{get_or-list_below, length-list_below, length-places_below, list_below-more, places_below-more}
use Rattle.mz_model.proofs.ZoneLaws.{allowed_zones-allowed, allowed_zones-has, is_free-few, is_free-many, length-allowed_zones, zone-in_range}
use Rattle.mz_draw.specs.Words.{SeatWords, pick_of, word_at}
use Rattle.mz_history.specs.Start.{starting_plan, starting_zone, resting_zone, is_drawn, start_seat, free_before}

-- ---- allowed zones

inhabited : (xs : List ℕ) (x : ℕ) → Contains xs x → 0 < length xs
inhabited xs x (k, within, at) = omega arith

-- each unit may have some zone
pub some_allowed : (parts : Parts) (unit : ℕ) → IsValid parts → unit < unit_count parts → 0 < length (allowed_zones parts unit)
some_allowed parts unit valid within =
    let set = slice_index parts.allowed unit in
    let some : IsZoneSet (zone_count parts) set = valid.shape.zone_sets unit within in
    let wide : 2 ^ zone_count parts ≤ 2 ^ 64 = pow_mono {i = zone_count parts} {j = 64} (omega (arith, valid.small.zones)) in
    let small : set < 2 ^ 64 = omega (arith, some.in_range, wide) in
    let lowest = bit_at-trailing_zeros w64 set some.some_zone small in
    inhabited (allowed_zones parts unit) (trailing_zeros w64 set)
    (allowed_zones-has parts unit (trailing_zeros w64 set) (zone-in_range (zone_count parts) set (trailing_zeros w64 set) some lowest.1) (eq-eqb (bit_at set (trailing_zeros w64 set)) 1 lowest.1))

pub some_zone : (parts : Parts) (unit : ℕ) (zones : List ℕ) → IsValid parts → unit < unit_count parts → zones ≡ allowed_zones parts unit → 0 < length zones
some_zone parts unit zones valid within are = let some = some_allowed parts unit valid within in omega (arith, ap length are)

pub few_zones : (parts : Parts) (unit : ℕ) (zones : List ℕ) → IsValid parts → zones ≡ allowed_zones parts unit → length zones ≤ 60
few_zones parts unit zones valid are = omega (arith, ap length are, length-allowed_zones parts unit, valid.small.zones)

pub allowed_at : (parts : Parts) (unit k : ℕ) (zones : List ℕ) → zones ≡ allowed_zones parts unit → k < length zones → IsTrue (is_allowed parts unit (get_or zones k 0))
allowed_at parts unit k zones are within = All-get_or (λ zone. IsTrue (is_allowed parts unit zone)) zones k 0 within (subst (All (λ zone. IsTrue (is_allowed parts unit zone))) (sym are) (allowed_zones-allowed parts unit))

-- ---- words that free units take

length-push : (xs : List ℕ) (x : ℕ) → length (xs ++ x ∷ []) ≡ length xs + 1
length-push [] x = refl
length-push (y ∷ ys) x = let more = length-push ys x in omega arith

pub free_before-free : (parts : Parts) (unit : ℕ) → is_free parts unit ≡ true → free_before parts (unit + 1) ≡ free_before parts unit + 1
free_before-free parts unit free =
    ap length (places_below-more unit (is_free parts) ∙ ap (λ ys. places_below unit (is_free parts) ++ ys) (cond-true (is_free parts unit) (unit ∷ []) [] free))
    ∙ length-push (places_below unit (is_free parts)) unit

pub free_before-fixed : (parts : Parts) (unit : ℕ) → is_free parts unit ≡ false → free_before parts (unit + 1) ≡ free_before parts unit
free_before-fixed parts unit fixed =
    ap length (places_below-more unit (is_free parts) ∙ ap (λ ys. places_below unit (is_free parts) ++ ys) (cond-false (is_free parts unit) (unit ∷ []) [] fixed) ∙ append-nil (places_below unit (is_free parts)))

pub free_before-le : (parts : Parts) (unit : ℕ) → free_before parts unit ≤ unit
free_before-le parts unit = length-places_below unit (is_free parts)

-- ---- the zone of one unit

pub starts_fixed : (parts : Parts) (prop seed run unit : ℕ) (zones : List ℕ) → zones ≡ allowed_zones parts unit → length zones < 2 → get_or zones 0 0 ≡ starting_zone parts prop seed run unit
starts_fixed parts prop seed run unit zones are few =
    let fixed = is_free-few parts unit zones are (omega arith) in
    ap (λ zs. slice_index zs 0) are ∙ rw fixed refl

-- a free unit's words
pub record HasWords (parts : Parts) (seed run unit chance choice : ℕ) : Type 0 where
  pub chance_is : chance ≡ word_at seed run start_seat (2 * free_before parts unit)
  pub choice_is : choice ≡ word_at seed run start_seat (2 * free_before parts unit + 1)

pub starts_drawn : (parts : Parts) (prop seed run unit chance choice place : ℕ) (zones : List ℕ) → zones ≡ allowed_zones parts unit → 1 < length zones → HasWords parts seed run unit chance choice
    → is_drawn prop chance ≡ true → place ≡ pick_of (length zones) choice → get_or zones place 0 ≡ starting_zone parts prop seed run unit
starts_drawn parts prop seed run unit chance choice place zones are many words drawn picked =
    let free = is_free-many parts unit zones are many in
    let here : is_drawn prop (word_at seed run start_seat (2 * free_before parts unit)) ≡ true = ap (is_drawn prop) (sym words.chance_is) ∙ drawn in
    ap (λ k. get_or zones k 0) picked ∙ ap (λ w. slice_index zones (pick_of (length zones) w)) words.choice_is
    ∙ ap (λ zs. slice_index zs (pick_of (length zs) (word_at seed run start_seat (2 * free_before parts unit + 1)))) are
    ∙ rw (free, here) refl

pub starts_resting : (parts : Parts) (prop seed run unit chance choice zone : ℕ) (zones : List ℕ) → zones ≡ allowed_zones parts unit → 1 < length zones → HasWords parts seed run unit chance choice
    → is_drawn prop chance ≡ false → zone ≡ resting_zone parts unit → zone ≡ starting_zone parts prop seed run unit
starts_resting parts prop seed run unit chance choice zone zones are many words still rests =
    let free = is_free-many parts unit zones are many in
    let here : is_drawn prop (word_at seed run start_seat (2 * free_before parts unit)) ≡ false = ap (is_drawn prop) (sym words.chance_is) ∙ still in
    rests ∙ rw (free, here) refl

-- ---- a unit's words, as the drawer gives them

pub drawn-is : (prop chance wide share : ℕ) → wide ≡ chance → share ≡ prop * 2 ^ 32 / 10 ^ 6 → wide < share → is_drawn prop chance ≡ true
drawn-is prop chance wide share same is below = lt-ltb chance (prop * 2 ^ 32 / 10 ^ 6) (omega arith)

pub still-is : (prop chance wide share : ℕ) → wide ≡ chance → share ≡ prop * 2 ^ 32 / 10 ^ 6 → share ≤ wide → is_drawn prop chance ≡ false
still-is prop chance wide share same is above = le-ltb chance (prop * 2 ^ 32 / 10 ^ 6) (omega arith)

pub has_words : (parts : Parts) (unit chance choice : ℕ) (old first : SeatWords) → old.seat ≡ start_seat → old.taken ≡ 2 * free_before parts unit → chance ≡ word_at old.seed old.run old.seat old.taken
    → first ≡ record old { taken = old.taken + 1 } → choice ≡ word_at first.seed first.run first.seat first.taken → HasWords parts old.seed old.run unit chance choice
has_words parts unit chance choice old first seat taken chance_at once choice_at = record {
  chance_is = chance_at ∙ ap (λ n. word_at old.seed old.run n old.taken) seat ∙ ap (word_at old.seed old.run start_seat) taken;
  choice_is = choice_at ∙ ap (λ (w : SeatWords). word_at w.seed w.run w.seat w.taken) once ∙ ap (λ n. word_at old.seed old.run n (old.taken + 1)) seat ∙ ap (λ n. word_at old.seed old.run start_seat (n + 1)) taken;
}

pub two_words : (parts : Parts) (unit : ℕ) (old first second : SeatWords) (zones : List ℕ) → zones ≡ allowed_zones parts unit → 1 < length zones → old.taken ≡ 2 * free_before parts unit
    → first ≡ record old { taken = old.taken + 1 } → second ≡ record first { taken = first.taken + 1 } → second ≡ record old { taken = 2 * free_before parts (unit + 1) }
two_words parts unit old first second zones are many taken once twice =
    let more = free_before-free parts unit (is_free-many parts unit zones are many) in
    let count : old.taken + 1 + 1 ≡ 2 * free_before parts (unit + 1) = omega arith in
    twice ∙ ap (λ (w : SeatWords). let after : SeatWords = record w { taken = w.taken + 1 } in after) once ∙ ap (λ (n : ℕ). let after : SeatWords = record old { taken = n } in after) count

pub no_words : (parts : Parts) (unit : ℕ) (old : SeatWords) (zones : List ℕ) → zones ≡ allowed_zones parts unit → length zones < 2 → old.taken ≡ 2 * free_before parts unit → old ≡ record old { taken = 2 * free_before parts (unit + 1) }
no_words parts unit old zones are few taken =
    let same = free_before-fixed parts unit (is_free-few parts unit zones are (omega arith)) in
    let count : old.taken ≡ 2 * free_before parts (unit + 1) = omega arith in
    ap (λ (n : ℕ). let after : SeatWords = record old { taken = n } in after) count

pub words_left : (parts : Parts) (unit taken : ℕ) → IsValid parts → unit < unit_count parts → taken ≡ 2 * free_before parts unit → taken + 2 < 2 ^ 64
words_left parts unit taken valid within is = omega (arith, free_before-le parts unit, valid.small.units)

-- ---- the whole plan

pub whole_plan : (parts : Parts) (prop seed run n : ℕ) (zones : List ℕ) → n ≡ unit_count parts → zones ≡ list_below n (starting_zone parts prop seed run) → zones ≡ starting_plan parts prop seed run
unfolding starting_plan
whole_plan parts prop seed run n zones all are = are ∙ ap (λ units. list_below units (starting_zone parts prop seed run)) all

-- the zones of the units below n, and a drawer that has given the words that these take
pub record HasStarted (parts : Parts) (prop seed run n : ℕ) (zones : List ℕ) (words : SeatWords) : Type 0 where
  pub zones_are : zones ≡ list_below n (starting_zone parts prop seed run)
  pub allowed : (unit : ℕ) → unit < n → IsTrue (is_allowed parts unit (starting_zone parts prop seed run unit))
  pub words_are : words ≡ record { seed = seed; run = run; seat = start_seat; taken = 2 * free_before parts n }

pub started-none : (parts : Parts) (prop seed run : ℕ) (zones : List ℕ) (words : SeatWords) → zones ≡ [] → words ≡ record { seed = seed; run = run; seat = 62; taken = 0 } → HasStarted parts prop seed run 0 zones words
started-none parts prop seed run zones words none fresh = record { zones_are = none; allowed = λ unit below. absurd (omega arith); words_are = fresh }

pub started-more : (parts : Parts) (prop seed run n zone : ℕ) (zones zones' : List ℕ) (old new : SeatWords) → HasStarted parts prop seed run n zones old
    → zone ≡ starting_zone parts prop old.seed old.run n → IsTrue (is_allowed parts n zone) → new ≡ record old { taken = 2 * free_before parts (n + 1) } → zones' ≡ zones ++ zone ∷ []
    → HasStarted parts prop seed run (n + 1) zones' new
started-more parts prop seed run n zone zones zones' old new so_far is allowed taken more =
    let own : zone ≡ starting_zone parts prop seed run n = is ∙ ap (λ (w : SeatWords). starting_zone parts prop w.seed w.run n) so_far.words_are in record {
      zones_are = more ∙ ap (λ zs. zs ++ zone ∷ []) so_far.zones_are ∙ ap (λ z. list_below n (starting_zone parts prop seed run) ++ z ∷ []) own ∙ sym (list_below-more n (starting_zone parts prop seed run));
      allowed = λ unit below. elim (cases_eq unit n) [
        | inl e ↦ subst (λ k. IsTrue (is_allowed parts k (starting_zone parts prop seed run k))) (sym e) (subst (λ z. IsTrue (is_allowed parts n z)) own allowed)
        | inr other ↦ so_far.allowed unit (omega arith)
      ];
      words_are = taken ∙ ap (λ (w : SeatWords). let after : SeatWords = record w { taken = 2 * free_before parts (n + 1) } in after) so_far.words_are;
    }

pub started_plan : (parts : Parts) (prop seed run n : ℕ) (zones : List ℕ) (words : SeatWords) → n ≡ unit_count parts → HasStarted parts prop seed run n zones words → zones ≡ starting_plan parts prop seed run
started_plan parts prop seed run n zones words all so_far = whole_plan parts prop seed run n zones all so_far.zones_are

pub started_plan-legal : (parts : Parts) (prop seed run n : ℕ) (zones : List ℕ) (words : SeatWords) → n ≡ unit_count parts → HasStarted parts prop seed run n zones words → IsLegalPlan parts zones
started_plan-legal parts prop seed run n zones words all so_far = record {
  whole = ap length so_far.zones_are ∙ length-list_below n (starting_zone parts prop seed run) ∙ all;
  allowed = λ unit within. subst (λ zone. IsTrue (is_allowed parts unit zone)) (sym (ap (λ xs. slice_index xs unit) so_far.zones_are ∙ get_or-list_below n unit (starting_zone parts prop seed run) 0 (omega arith))) (so_far.allowed unit (omega arith));
}
