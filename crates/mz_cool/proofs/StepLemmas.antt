-- The staircase, and its steps that stand above a word.
use Rattle.std.proofs.Common.{add-one, ◌≡◌, ℕ, zero, suc, ◌+◌, ◌-◌, ◌*◌, ◌/◌, ◌<◌, ◌≤◌, ◌^◌, true, false, refl, arith, ap, sym, ◌∙◌, inl, inr, List, [], ◌∷◌, ◌++◌, length, length-append, get_or, below_more, subst}
use Rattle.std.specs.Prelude.{nat_lt}
use Rattle.std.proofs.Math.ListN.{get_or-append}
use Rattle.std.proofs.Math.Seq.{get_or-append_seam}
use Rattle.std.proofs.lemmas.Bool.Decides.{leb_tells}
use Rattle.mz_cool.specs.Acceptance.{AreStepsAbove, descent, staircase}
use Rattle.mz_cool.specs.Starts.{AreStarts, IsStart}

-- the top
pub descent-zero : 4294967296 ≡ descent 0
unfolding descent
descent-zero = refl

-- the next step
pub descent-next : (n height : ℕ) → height ≡ descent n → height - height / 64 ≡ descent (n + 1)
unfolding descent
descent-next n height is = rw (add-one, ← is) refl

-- no step is above the one before
descent-falls : (n more : ℕ) → descent (n + more) ≤ descent n
unfolding descent
descent-falls n zero = let here : n + 0 ≡ n = omega arith in let same = ap descent here in omega arith
descent-falls n (suc more) =
    let before = descent-falls n more in
    let next : n + suc more ≡ suc (n + more) = omega arith in
    let same : descent (n + suc more) ≡ descent (n + more) - descent (n + more) / 64 = ap descent next in
    omega arith

-- the first steps, all of which are above the word where the next isn't
pub steps-are : (word steps : ℕ) → steps ≤ 1408 → ((n : ℕ) → n < steps → word < descent n)
    → (steps < 1408 → descent steps ≤ word) → AreStepsAbove word steps
unfolding staircase
steps-are word steps few above stops n = elim (leb_tells steps n) [
  | inl past ↦ elim (leb_tells 1408 n) [
    | inl out ↦ let none : nat_lt n 1408 ≡ false = grind (arith, out.1) in rw none (grind (arith, past.1))
    | inr in_stairs ↦
        let here : nat_lt n 1408 ≡ true = grind (arith, in_stairs.1) in
        let whole : steps + (n - steps) ≡ n = omega (arith, past.1) in
        let falls = descent-falls steps (n - steps) in
        let same = ap descent whole in
        let low = stops (omega (arith, past.1, in_stairs.1)) in
        let under : descent n ≤ word = omega arith in
        rw here (grind (arith, past.1))
  ]
  | inr within ↦
      let here : nat_lt n 1408 ≡ true = grind (arith, within.1) in
      let over = above n within.1 in
      rw here (grind (arith, within.1))
]

-- no step is behind the last
pub steps-few : (word steps : ℕ) → AreStepsAbove word steps → steps ≤ 1408
unfolding staircase
steps-few word steps are = elim (leb_tells steps 1408) [
  | inl few ↦ few.1
  | inr many ↦ let none = are 1408 in absurd (grind (arith, many.1))
]

-- each of the steps is above the word
pub steps-above : (word steps n : ℕ) → AreStepsAbove word steps → n < steps → word < descent n
unfolding staircase
steps-above word steps n are within =
    let few = steps-few word steps are in
    let here : nat_lt n 1408 ≡ true = grind arith in
    let told : nat_lt n steps ≡ true = grind (arith, within) in
    let over : nat_lt word (descent n) ≡ true = rw here at (are n ∙ told) in
    grind (arith, over)

-- steps that stand above the greatest word of a group are a start for it and for the next group
pub start-of : (group start word : ℕ) → word + group * 2 ^ 20 + 1 ≡ 2 ^ 32 → AreStepsAbove word start → IsStart group start
start-of group start word greatest are = record {
  few = steps-few word start are;
  above = λ n within. omega (arith, steps-above word start n are within);
}

pub start-next : (group start : ℕ) → IsStart group start → IsStart (group + 1) start
start-next group start is = record { few = is.few; above = λ n within. omega (arith, is.above n within) }

-- starts that grow by one
pub starts-more : (groups : ℕ) (starts more : List ℕ) (start : ℕ) → AreStarts groups starts → IsStart groups start
    → more ≡ starts ++ start ∷ [] → AreStarts (groups + 1) more
starts-more groups starts more start are is grown =
    let all : AreStarts (groups + 1) (starts ++ start ∷ []) = record {
      length = length-append starts (start ∷ []) ∙ ap (λ (m : ℕ). m + 1) are.length;
      each = below_more _ _
          (λ k h. let within : k < length starts = omega (arith, are.length) in
          subst (IsStart k) (sym (get_or-append starts (start ∷ []) 0 k within)) (are.each k h))
          (subst (IsStart groups) (sym (ap (λ (m : ℕ). get_or (starts ++ start ∷ []) m 0) (sym are.length) ∙ get_or-append_seam starts start [] 0)) is);
    } in
    subst (AreStarts (groups + 1)) (sym grown) all
