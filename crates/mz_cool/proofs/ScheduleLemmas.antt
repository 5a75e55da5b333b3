-- Bounds of the temperatures, and how they rise with the factor.
use Rattle.std.proofs.Common.{◌≡◌, ℕ, zero, suc, ◌+◌, ◌*◌, ◌/◌, ◌^◌, ◌<◌, ◌≤◌, ◌-◌, max, true, refl, arith, add-one, ap, sym, ◌∙◌, List, get_or}
use Rattle.std.specs.Prelude.{nat_le}
use Rattle.std.proofs.lemmas.Bool.{le-leb}
use Rattle.std.proofs.Math.Nat.{div-mul-le_self, le-div_iff_mul-le, div-lt_iff_lt-mul, mul-le-mul, mul-le-mul_left, mul-le-mul_right, div-le_of_le-mul}
use Rattle.mz_cool.specs.Table.{IsTable}
use Rattle.mz_cool.proofs.TableLemmas.{IsTable-read}
use Rattle.mz_cool.specs.Schedule.{Cooling, IsSchedule, temperature_of_level, temperature_at}

-- the first level
pub temperature_of_level-first : (first factor : ℕ) → first ≡ temperature_of_level first factor 0
unfolding temperature_of_level
temperature_of_level-first first factor = refl

-- a quotient rises with the dividend
div-mono : (m n k : ℕ) → 0 < k → m ≤ n → m / k ≤ n / k
div-mono m n k positive h =
    let below : m / k * k ≤ m = div-mul-le_self m k in
    (le-div_iff_mul-le positive).1 (omega arith)

-- the next level
pub temperature_of_level-next : (first factor n temperature next : ℕ)
    → temperature ≡ temperature_of_level first factor n → next ≡ max 1 (temperature * factor / 10 ^ 9)
    → next ≡ temperature_of_level first factor (n + 1)
unfolding temperature_of_level
temperature_of_level-next first factor n temperature next is made = rw (add-one, ← is) made

-- no temperature is below 1
pub temperature_of_level-pos : (first factor n : ℕ) → 1 ≤ first → 1 ≤ temperature_of_level first factor n
unfolding temperature_of_level
temperature_of_level-pos first factor zero h = h
temperature_of_level-pos first factor (suc n) h = omega arith

-- no temperature is above the first
pub temperature_of_level-le : (first factor n : ℕ) → 1 ≤ first → factor ≤ 10 ^ 9
    → temperature_of_level first factor n ≤ first
unfolding temperature_of_level
temperature_of_level-le first factor zero h small = omega arith
temperature_of_level-le first factor (suc n) h small =
    let before = temperature_of_level-le first factor n h small in
    let t = temperature_of_level first factor n in
    let part : t * factor ≤ t * 10 ^ 9 = mul-le-mul_left t small in
    let whole : t * factor / 10 ^ 9 ≤ t = div-le_of_le-mul (10 ^ 9) (omega arith) in
    omega arith

-- they never rise from level to level
pub temperature_of_level-falls : (first factor n more : ℕ) → 1 ≤ first → factor ≤ 10 ^ 9
    → temperature_of_level first factor (n + more) ≤ temperature_of_level first factor n
unfolding temperature_of_level
temperature_of_level-falls first factor n zero h small =
    let here : n + 0 ≡ n = omega arith in
    let same = ap (temperature_of_level first factor) here in
    omega arith
temperature_of_level-falls first factor n (suc more) h small =
    let before = temperature_of_level-falls first factor n more h small in
    let t = temperature_of_level first factor (n + more) in
    let least : 1 ≤ t = temperature_of_level-pos first factor (n + more) h in
    let part : t * factor ≤ t * 10 ^ 9 = mul-le-mul_left t small in
    let whole : t * factor / 10 ^ 9 ≤ t = div-le_of_le-mul (10 ^ 9) (omega arith) in
    let next : n + suc more ≡ suc (n + more) = omega arith in
    let same : temperature_of_level first factor (n + suc more) ≡ max 1 (t * factor / 10 ^ 9) = ap (temperature_of_level first factor) next in
    omega arith

-- where one level is low enough, each later one is too
pub low_enough : (first factor n levels temperature last : ℕ) → 1 ≤ first → factor ≤ 10 ^ 9
    → temperature ≡ temperature_of_level first factor n → n ≤ levels → temperature ≤ last
    → true ≡ nat_le (temperature_of_level first factor levels) last
low_enough first factor n levels temperature last h small is within low =
    let falls = temperature_of_level-falls first factor n (levels - n) h small in
    let whole : n + (levels - n) ≡ levels = omega arith in
    let same = ap (temperature_of_level first factor) whole in
    sym (le-leb (temperature_of_level first factor levels) last (omega arith))

-- they rise with the factor
pub temperature_of_level-mono : (first factor greater n : ℕ) → factor ≤ greater
    → temperature_of_level first factor n ≤ temperature_of_level first greater n
unfolding temperature_of_level
temperature_of_level-mono first factor greater zero h = omega arith
temperature_of_level-mono first factor greater (suc n) h =
    let before = temperature_of_level-mono first factor greater n h in
    let product = mul-le-mul before h in
    let quotient = div-mono _ _ (10 ^ 9) (omega arith) product in
    omega arith

-- the level of a position is one of the levels
pub level-lt : (position levels limit : ℕ) → position < limit → 1 ≤ levels → position * levels / limit < levels
level-lt position levels limit h some =
    let wide : 0 < limit = omega arith in
    let more : (position + 1) * levels ≤ limit * levels = mul-le-mul_right levels (omega arith) in
    let strict : position * levels < levels * limit = omega arith in
    (div-lt_iff_lt-mul wide).1 strict

-- the temperature of each position is from 1 to the first
pub temperature_at-pos : (cooling : Cooling) (position : ℕ) → IsSchedule cooling → 1 ≤ temperature_at cooling position
unfolding temperature_at
temperature_at-pos cooling position is = temperature_of_level-pos _ _ _ is.above

pub temperature_at-le : (cooling : Cooling) (position : ℕ) → IsSchedule cooling
    → temperature_at cooling position ≤ 10 ^ 29
unfolding temperature_at
temperature_at-le cooling position is =
    let most = temperature_of_level-le cooling.first cooling.factor (position * cooling.levels / cooling.limit) is.above is.factor in
    omega (arith, is.below)

-- what the table of the levels says of a position
pub temperature_at-read : (cooling now : Cooling) (position p levels limit temperature : ℕ) (temperatures : List ℕ)
    → cooling ≡ now → IsSchedule cooling
    → IsTable (temperature_of_level cooling.first cooling.factor) cooling.levels temperatures
    → position < now.limit → p ≡ position → levels ≡ cooling.levels → limit ≡ cooling.limit
    → temperature ≡ get_or temperatures (p * levels / limit) temperature
    → (temperature ≡ temperature_at now position) × (1 ≤ temperature) × (temperature ≤ 10 ^ 29)
unfolding temperature_at
temperature_at-read cooling now position p levels limit temperature temperatures same is table within p-is levels-is limit-is read =
    let at : temperature ≡ get_or temperatures (position * cooling.levels / cooling.limit) temperature =
    rw (p-is, levels-is, limit-is) at read in
    let inside : position < cooling.limit = rw (← same) at within in
    let value = IsTable-read _ _ _ _ _ table (level-lt position cooling.levels cooling.limit inside is.levels) at in
    let least = temperature_at-pos cooling position is in
    let most = temperature_at-le cooling position is in
    (value ∙ ap (λ (c : Cooling). temperature_at c position) same, omega (arith, value), omega (arith, value))
