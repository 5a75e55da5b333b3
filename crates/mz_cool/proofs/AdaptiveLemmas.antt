-- The sizes of changes, and the greatest factor that ends at most at the last temperature.
use Rattle.std.proofs.Common.{◌≡◌, ℕ, zero, suc, ◌+◌, ◌*◌, ◌^◌, ◌<◌, ◌≤◌, inl, inr, max, Bool, true, false, refl, sym, ap, ◌∙◌, arith, List, [], ◌∷◌, ◌++◌, min, length, get_or, take, append-nil, ℤ, of_z, to_z}
use Rattle.std.specs.Int.{w128}
use Rattle.std.proofs.lemmas.Bool.{leb-true, leb-false}
use Rattle.std.proofs.lemmas.Int.{to_z-of_z, fits_signed_from_abs}
use Rattle.std.specs.Prelude.{nat_le, nat_lt, unsigned_abs, map, filter, fold, Option, Some, None}
use Rattle.std.specs.Option.{option_map_or}
use Rattle.std.proofs.Math.Nat.{eq-or-lt_of_le}
use Rattle.std.proofs.lemmas.List.Sums.{fold_push}
use Rattle.std.proofs.lemmas.List.{take_more, map-append}
use Rattle.std.proofs.lemmas.List.Elements.{filter-append}
use Rattle.mz_cool.specs.Schedule.{temperature_of_level}
use Rattle.mz_cool.specs.Adaptive.{greatest, least, sizes_above_0, last_temperature, greatest_passing, adaptive_factor}
use Rattle.mz_cool.proofs.ScheduleLemmas.{temperature_of_level-mono}

-- the size that the code reads of a change within the limit
pub size-read : (d : ℤ) (size : ℕ) → unsigned_abs d ≤ 10 ^ 25 → size ≡ unsigned_abs (to_z w128 (of_z w128 d))
    → size ≡ unsigned_abs d
size-read d size small read =
    let within : unsigned_abs d < 2 ^ 127 = omega arith in
    read ∙ ap unsigned_abs (to_z-of_z w128 d (fits_signed_from_abs w128 d within))

-- no size
pub greatest-none : 0 ≡ greatest []
unfolding greatest
greatest-none = refl

pub least-none : None ≡ least (sizes_above_0 [])
unfolding least sizes_above_0
least-none = refl

-- one more size
pub greatest-more : (changes : List ℤ) (i most : ℕ) (d : ℤ) → i < length changes
    → most ≡ greatest (map unsigned_abs (take i changes))
    → max most (unsigned_abs (get_or changes i d)) ≡ greatest (map unsigned_abs (take (i + 1) changes))
unfolding greatest
greatest-more changes i most d within is =
    let grown = ap (map unsigned_abs) (take_more changes i d within) ∙ map-append unsigned_abs (take i changes) (get_or changes i d ∷ []) in
    ap (λ (m : ℕ). max m (unsigned_abs (get_or changes i d))) is
    ∙ sym (ap (fold max 0) grown ∙ fold_push max 0 (map unsigned_abs (take i changes)) (unsigned_abs (get_or changes i d)))

-- a last number
least-push : (sizes : List ℕ) (size : ℕ) → least (sizes ++ size ∷ []) ≡ Some (option_map_or (λ m. min m size) (least sizes) size)
unfolding least
least-push [] size = refl
least-push (first ∷ sizes) size = ap (λ (m : ℕ). Some m) (fold_push min first sizes size)

sizes_above_0-more : (changes : List ℤ) (i : ℕ) (d : ℤ) → i < length changes
    → sizes_above_0 (take (i + 1) changes)
    ≡ sizes_above_0 (take i changes) ++ filter (λ size. nat_lt 0 size) (unsigned_abs (get_or changes i d) ∷ [])
unfolding sizes_above_0
sizes_above_0-more changes i d within =
    let test : ℕ → Bool = λ size. nat_lt 0 size in
    let grown = ap (map unsigned_abs) (take_more changes i d within) ∙ map-append unsigned_abs (take i changes) (get_or changes i d ∷ []) in
    ap (filter test) grown ∙ filter-append test (map unsigned_abs (take i changes)) (unsigned_abs (get_or changes i d) ∷ [])

-- one more size, where it is above 0 and where it is 0
pub least-more : (changes : List ℤ) (i size smaller : ℕ) (d : ℤ) (before : Option ℕ) → i < length changes
    → size ≡ unsigned_abs (get_or changes i d) → 0 < size → before ≡ least (sizes_above_0 (take i changes))
    → smaller ≡ option_map_or (λ m. min m size) before size
    → Some smaller ≡ least (sizes_above_0 (take (i + 1) changes))
least-more changes i size smaller d before within size-is above is made =
    let test : ℕ → Bool = λ n. nat_lt 0 n in
    let passes : nat_lt 0 size ≡ true = grind arith in
    let kept : filter test (size ∷ []) ≡ size ∷ [] = rw passes refl in
    let grown = sizes_above_0-more changes i d within in
    let all : sizes_above_0 (take (i + 1) changes) ≡ sizes_above_0 (take i changes) ++ size ∷ [] =
    rw (← size-is, kept) at grown in
    rw (all, least-push, ← is) (ap (λ (m : ℕ). Some m) made)

pub least-same : (changes : List ℤ) (i size : ℕ) (d : ℤ) (before : Option ℕ) → i < length changes
    → size ≡ unsigned_abs (get_or changes i d) → size ≤ 0 → before ≡ least (sizes_above_0 (take i changes))
    → before ≡ least (sizes_above_0 (take (i + 1) changes))
least-same changes i size d before within size-is none is =
    let test : ℕ → Bool = λ n. nat_lt 0 n in
    let fails : nat_lt 0 size ≡ false = grind arith in
    let left : filter test (size ∷ []) ≡ [] = rw fails refl in
    let grown = sizes_above_0-more changes i d within in
    let all : sizes_above_0 (take (i + 1) changes) ≡ sizes_above_0 (take i changes) ++ [] = rw (← size-is, left) at grown in
    rw (all, append-nil) is

-- the smaller of two sizes within a limit
pub smaller-le : (before : Option ℕ) (size smaller limit : ℕ) → smaller ≡ option_map_or (λ m. min m size) before size
    → size ≤ limit → smaller ≤ limit
smaller-le None size smaller limit made small = omega arith
smaller-le (Some m) size smaller limit made small = omega arith

-- the last temperature, of the least size and of none
pub last_temperature-some : (changes : List ℤ) (size last : ℕ) → Some size ≡ least (sizes_above_0 changes)
    → last ≡ max (100 * size) 1 → last ≡ last_temperature changes
unfolding last_temperature
last_temperature-some changes size last is made =
    rw (← is) (omega arith)

pub last_temperature-none : (changes : List ℤ) → None ≡ least (sizes_above_0 changes) → 1 ≡ last_temperature changes
unfolding last_temperature
last_temperature-none changes is = rw (← is) refl

-- the greatest number that passes, where those above it fail
pub greatest_passing-is : (test : ℕ → Bool) (n k : ℕ) → k < n → test k ≡ true
    → ((g : ℕ) → k < g → g < n → test g ≡ false) → greatest_passing test n ≡ k
unfolding greatest_passing
greatest_passing-is test zero k within passes fail = absurd (omega arith)
greatest_passing-is test (suc n) k within passes fail =
    let below : k ≤ n = omega arith in
    elim (eq-or-lt_of_le below) [
      | inl same ↦ let here : test n ≡ true = rw (← same) passes in rw here (sym same)
      | inr less ↦
          let here : test n ≡ false = fail n less (omega arith) in
          rw here (greatest_passing-is test n k less passes (λ g above under. fail g above (omega arith)))
    ]

-- with the factor 0 the temperature is 1 after a step
pub temperature_of_level-nothing : (first levels : ℕ) → 1 ≤ levels → temperature_of_level first 0 levels ≡ 1
unfolding temperature_of_level
temperature_of_level-nothing first zero h = absurd (omega arith)
temperature_of_level-nothing first (suc levels) h = omega arith

-- the factor that the halving finds
pub adaptive_factor-is : (first last levels k : ℕ) → k < 10 ^ 9 → temperature_of_level first k levels ≤ last
    → ((g : ℕ) → k + 1 ≤ g → g < 10 ^ 9 → last < temperature_of_level first g levels)
    → k ≡ adaptive_factor first last levels
unfolding adaptive_factor
adaptive_factor-is first last levels k within passes fail =
    let test : ℕ → Bool = λ factor. nat_le (temperature_of_level first factor levels) last in
    sym (greatest_passing-is test (10 ^ 9) k within (grind arith)
    (λ g above under. let over : last < temperature_of_level first g levels = fail g (omega arith) under in grind arith))

-- where one factor ends above the last temperature, each greater one does
pub adaptive_factor-fail : (first last levels factor g : ℕ) (within : Bool)
    → within ≡ nat_le (temperature_of_level first factor levels) last → within ≡ false → factor ≤ g
    → last < temperature_of_level first g levels
adaptive_factor-fail first last levels factor g within tested failed above =
    let over : nat_le (temperature_of_level first factor levels) last ≡ false = sym tested ∙ failed in
    let more = temperature_of_level-mono first factor g levels above in
    let here : last < temperature_of_level first factor levels = grind arith in
    omega arith

-- where 0 passes, the greatest number that passes does
passes-by : (test : ℕ → Bool) (n : ℕ) (b : Bool) → test n ≡ b → (b ≡ false → test (greatest_passing test n) ≡ true)
    → test (greatest_passing test (suc n)) ≡ true
unfolding greatest_passing
passes-by test n true here below = rw (here, here) refl
passes-by test n false here below = rw here (below refl)

greatest_passing-passes : (test : ℕ → Bool) (n : ℕ) → test 0 ≡ true → test (greatest_passing test n) ≡ true
unfolding greatest_passing
greatest_passing-passes test zero zero_passes = zero_passes
greatest_passing-passes test (suc n) zero_passes =
    passes-by test n (test n) refl (λ _. greatest_passing-passes test n zero_passes)

-- each number above it fails
fails-by : (test : ℕ → Bool) (n g : ℕ) (b : Bool) → test n ≡ b → greatest_passing test (suc n) < g → g ≤ n
    → (greatest_passing test n < g → g < n → test g ≡ false) → test g ≡ false
unfolding greatest_passing
fails-by test n g true here above under below =
    let found : n < g = rw here at above in
    absurd (omega arith)
fails-by test n g false here above under below =
    let more : greatest_passing test n < g = rw here at above in
    elim (eq-or-lt_of_le under) [ inl same ↦ rw same here | inr less ↦ below more less ]

greatest_passing-fails : (test : ℕ → Bool) (n g : ℕ) → greatest_passing test n < g → g < n → test g ≡ false
greatest_passing-fails test zero g above under = absurd (omega arith)
greatest_passing-fails test (suc n) g above under =
    fails-by test n g (test n) refl above (omega arith) (greatest_passing-fails test n g)

-- the factor of an adaptive schedule reaches its last temperature, and no greater one below 1 does
pub adaptive_factor-greatest : (first last levels : ℕ) → 1 ≤ last → 1 ≤ levels
    → (temperature_of_level first (adaptive_factor first last levels) levels ≤ last)
    × ((g : ℕ) → adaptive_factor first last levels < g → g < 10 ^ 9 → last < temperature_of_level first g levels)
unfolding adaptive_factor
adaptive_factor-greatest first last levels positive some =
    let test : ℕ → Bool = λ factor. nat_le (temperature_of_level first factor levels) last in
    let least : temperature_of_level first 0 levels ≤ last = omega (arith, temperature_of_level-nothing first levels some) in
    let zero_passes : nat_le (temperature_of_level first 0 levels) last ≡ true = grind arith in
    let passes = greatest_passing-passes test (10 ^ 9) zero_passes in
    (leb-true _ _ passes, λ g above under. leb-false _ _ (greatest_passing-fails test (10 ^ 9) g above under))
