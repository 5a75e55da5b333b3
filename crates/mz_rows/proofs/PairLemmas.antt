-- Pairs of places in one list, the second of which goes fastest.
use Rattle.std.proofs.Common.{◌≡◌, ℕ, zero, suc, ◌+◌, ◌*◌, ◌/◌, ◌%◌, ◌<◌, ◌≤◌, ap, arith}
use Rattle.std.proofs.lemmas.Nat.{div-mul-add, div-add-mod'}
use Rattle.std.proofs.Math.Nat.{div-lt_iff_lt-mul, mod-lt, mul-le-mul_right}

pub pair-first : (first width second : ℕ) → second < width → (first * width + second) / width ≡ first
pair-first first width second within = div-mul-add first width second within

pub pair-second : (first width second : ℕ) → second < width → (first * width + second) % width ≡ second
pair-second first width second within =
    let whole : (first * width + second) / width * width + (first * width + second) % width ≡ first * width + second = div-add-mod' (first * width + second) width in
    let front : (first * width + second) / width * width ≡ first * width = ap (λ q. q * width) (pair-first first width second within) in
    omega (arith, whole, front)

pub some_width : (place count width : ℕ) → place < count * width → 0 < width
some_width place count zero within = omega (arith, within)
some_width place count (suc width) within = omega arith

pub first-below : (place count width : ℕ) → place < count * width → place / width < count
first-below place count width within = (div-lt_iff_lt-mul {k = width} {x = place} {y = count} (some_width place count width within)).1 within

pub second-below : (place count width : ℕ) → place < count * width → place % width < width
second-below place count width within = mod-lt place (some_width place count width within)

pub pair-below : (first count width second : ℕ) → first < count → second < width → first * width + second < count * width
pair-below first count width second below within =
    let rows : (first + 1) * width ≤ count * width = mul-le-mul_right width (omega (arith, below)) in
    omega (arith, rows, within)

pub pair-whole : (place width : ℕ) → place / width * width + place % width ≡ place
pair-whole place width = div-add-mod' place width
