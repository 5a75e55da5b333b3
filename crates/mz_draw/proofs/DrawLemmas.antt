-- What every draw of a seat is.
use Rattle.std.proofs.Common.{◌≡◌, ℕ, ◌+◌, ◌-◌, ◌*◌, ◌<◌, ◌≤◌, refl, arith, List, length, get_or}
use Rattle.std.specs.Prelude.{All}
use Rattle.mz_draw.specs.declared.draw.Draw.{Draw}
use Rattle.mz_draw.specs.Words.{SeatWords, word_at, pick_of}
use Rattle.mz_draw.specs.Draws.{draw_at, IsDrawFrom}
use Rattle.mz_draw.proofs.WordLemmas.{word_at-lt, pick_of-lt}

-- the k-th draw has the number k
pub draw_at-number : (seed run seat : ℕ) (free counts : List ℕ) (k : ℕ)
    → (draw_at seed run seat free counts k).number ≡ k
unfolding draw_at
draw_at-number seed run seat free counts k = refl

-- the word of its acceptance is the third
pub draw_at-word : (seed run seat : ℕ) (free counts : List ℕ) (k : ℕ)
    → (draw_at seed run seat free counts k).word ≡ word_at seed run seat (3 * k + 2)
unfolding draw_at
draw_at-word seed run seat free counts k = refl

-- each draw names one of the free units and another of its zones
pub draw_at-IsDrawFrom : (seed run seat : ℕ) (free counts : List ℕ) (k : ℕ)
    → 0 < length free → length counts ≡ length free → All (λ m. (2 ≤ m) × (m ≤ 60)) counts
    → IsDrawFrom free counts (draw_at seed run seat free counts k)
unfolding draw_at
draw_at-IsDrawFrom seed run seat free counts k some_free same choices =
    let first = word_at-lt seed run seat (3 * k) in
    let second = word_at-lt seed run seat (3 * k + 1) in
    let place = pick_of (length free) (word_at seed run seat (3 * k)) in
    let within : place < length free = pick_of-lt _ _ some_free first in
    let choice : (2 ≤ get_or counts place 0) × (get_or counts place 0 ≤ 60) = choices place 0 (omega arith) in
    let below = pick_of-lt (get_or counts place 0 - 1) (word_at seed run seat (3 * k + 1)) (omega arith) second in
    record { place = place; within = within; unit = refl; moves = omega arith; goes_round = omega arith }

-- the three words of a draw, and the draw that they make
pub draw_at-drawn : (s one two : SeatWords) (free counts : List ℕ) (a b word place turn k : ℕ)
    → one ≡ record s { taken = s.taken + 1 } → two ≡ record one { taken = one.taken + 1 }
    → a ≡ word_at s.seed s.run s.seat s.taken → b ≡ word_at one.seed one.run one.seat one.taken
    → word ≡ word_at two.seed two.run two.seat two.taken
    → place ≡ pick_of (length free) a → turn ≡ pick_of (get_or counts place 0 - 1) b
    → (number : ℕ) → number ≡ k → s.taken ≡ 3 * k
    → ◌≡◌ {A = Draw} (record { number = number; unit = get_or free place 0; shift = 1 + turn; word = word })
    (draw_at s.seed s.run s.seat free counts k)
unfolding draw_at
draw_at-drawn s one two free counts a b word place turn k first second a-is b-is word-is place-is turn-is number number-is at =
    let a-at : a ≡ word_at s.seed s.run s.seat (3 * k) = rw at at a-is in
    let b-at : b ≡ word_at s.seed s.run s.seat (3 * k + 1) = rw (first, at) at b-is in
    let two_on : 3 * k + 1 + 1 ≡ 3 * k + 2 = omega arith in
    let word-at : word ≡ word_at s.seed s.run s.seat (3 * k + 2) = rw (second, first, at, two_on) at word-is in
    rw (number-is, turn-is, place-is, a-at, b-at, word-at) refl
