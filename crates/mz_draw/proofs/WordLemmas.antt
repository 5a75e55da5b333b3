-- A seat's generator after some words, and the bounds of a word and of a pick.
use Rattle.std.proofs.Common.{◌≡◌, ℕ, zero, suc, ◌+◌, ◌-◌, ◌*◌, ◌/◌, ◌%◌, ◌^◌, ◌<◌, ◌≤◌, refl, sym, ap, ◌∙◌, arith, suc-add, zero-add, bit_xor}
use Rattle.std.proofs.Math.Nat.{div-lt_iff_lt-mul, div-le_self, mul-le-mul_right}
use Rattle.std.proofs.lemmas.Nat.{or_lt}
use Rattle.rand_pcg.specs.Lcg.{Lcg, advance, next_state, state_after, started, increment_of}
use Rattle.rand_pcg.specs.Pcg.{multiplier_64, pcg32, output_xsh_rr}
use Rattle.mz_draw.specs.Words.{generator_at, word_at, pick_of}

-- n steps and then d are n + d
state_after-add : (w m p n d s : ℕ) → state_after w m p d (state_after w m p n s) ≡ state_after w m p (n + d) s
unfolding state_after
state_after-add w m p zero d s = ap (λ (n : ℕ). state_after w m p n s) (sym (zero-add d))
state_after-add w m p (suc n) d s =
    state_after-add w m p n d (next_state w m p s) ∙ ap (λ (n : ℕ). state_after w m p n s) (sym (suc-add n d))

state_after-one : (w m p s : ℕ) → next_state w m p s ≡ state_after w m p 1 s
unfolding state_after
state_after-one w m p s = refl

-- a new generator has given no word
pub generator_at-zero : (seed run seat : ℕ)
    → started 64 multiplier_64 seed (increment_of 64 (run * 64 + seat)) ≡ generator_at seed run seat 0
unfolding generator_at state_after
generator_at-zero seed run seat = refl

-- a jump over d words
pub generator_at-add : (seed run seat n d : ℕ)
    → advance 64 multiplier_64 d (generator_at seed run seat n) ≡ generator_at seed run seat (n + d)
unfolding generator_at
generator_at-add seed run seat n d =
    let g = started 64 multiplier_64 seed (increment_of 64 (run * 64 + seat)) in
    ap (λ (s : ℕ). record g { state = s }) (state_after-add 64 multiplier_64 g.increment n d g.state)

-- one word on
pub generator_at-next : (seed run seat n : ℕ)
    → (pcg32 (generator_at seed run seat n)).1 ≡ generator_at seed run seat (n + 1)
generator_at-next seed run seat n =
    let g = generator_at seed run seat n in
    ap (λ (s : ℕ). record g { state = s }) (state_after-one 64 multiplier_64 g.increment g.state)
    ∙ generator_at-add seed run seat n 1

output-lt : (s : ℕ) → output_xsh_rr s < 2 ^ 32
output-lt s =
    let n = bit_xor (s / 2 ^ 18) s / 2 ^ 27 % 2 ^ 32 in
    let by = s / 2 ^ 59 in
    let small : n < 2 ^ 32 = omega arith in
    let high : n / 2 ^ (by % 32) < 2 ^ 32 = omega (arith, div-le_self n (2 ^ (by % 32))) in
    let low : n * 2 ^ ((32 - by % 32) % 32) % 2 ^ 32 < 2 ^ 32 = omega arith in
    or_lt 32 _ _ high low

-- a word has 32 bits
pub word_at-lt : (seed run seat i : ℕ) → word_at seed run seat i < 2 ^ 32
unfolding word_at
word_at-lt seed run seat i = output-lt (generator_at seed run seat i).state

-- a pick is below the number of choices
pub pick_of-lt : (m word : ℕ) → 0 < m → word < 2 ^ 32 → pick_of m word < m
unfolding pick_of
pick_of-lt m word positive small =
    let least : (word + 1) * m ≤ 2 ^ 32 * m = mul-le-mul_right m (omega arith) in
    let strict : word * m < m * 2 ^ 32 = omega arith in
    let wide : 0 < 2 ^ 32 = omega arith in
    (div-lt_iff_lt-mul wide).1 strict

-- what a word leaves, and what it is
pub word_at-taken : (seed run seat n word : ℕ) (g left : Lcg) → (word, left) ≡ pcg32 g
    → g ≡ generator_at seed run seat n
    → (word ≡ word_at seed run seat n) × (left ≡ generator_at seed run seat (n + 1))
unfolding word_at
word_at-taken seed run seat n word g left given is =
    let same : (word, left) ≡ pcg32 (generator_at seed run seat n) = given ∙ ap pcg32 is in
    (ap (λ (p : ℕ × Lcg). p.0) same, ap (λ (p : ℕ × Lcg). p.1) same ∙ generator_at-next seed run seat n)
