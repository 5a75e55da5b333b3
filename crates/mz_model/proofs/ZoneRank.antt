-- The place of an allowed zone among a unit's allowed zones is the number of bits of its set below the zone's.
use Rattle.std.proofs.Common.{◌≡◌, ℕ, zero, suc, ◌+◌, ◌-◌, ◌*◌, ◌/◌, ◌%◌, ◌^◌, ◌<◌, ◌≤◌, Bool, true, false, cond, List, [], ◌++◌, ◌∷◌, length, get_or, refl, ap, sym, ◌∙◌, subst, arith, inl, inr, ◌==◌, add-one}
use Rattle.std.specs.Prelude.{bit_and}
use Rattle.std.specs.Int.{bit_at}
use Rattle.std.specs.Int.Count.{ones, ones-ones}
use Rattle.std.specs.List.{All, position_or_len}
use Rattle.std.proofs.lemmas.Bool.{cases_lt, cond-false, cond-true, eq-eqb, ne_eqb}
use Rattle.std.proofs.lemmas.List.Folds.{position_or_len_push}
use Rattle.std.proofs.lemmas.List.{append-nil, length-append}
use Rattle.std.proofs.lemmas.List.Elements.{All-get_or}
use Rattle.std.proofs.lemmas.List.Sums.{position_or_len_is}
use Rattle.std.proofs.lemmas.Nat.{and_mask, mod_below, mod-pow-add, ones_cat, ones-le, pow_pos}
use Rattle.std.proofs.Math.Nat.{mod-eq_of_lt}
use Rattle.std.proofs.Math.Pow.{pow-lt}
use Rattle.mz_num.specs.Places.{places_below}
use Rattle.mz_num.proofs.PlaceLaws.{places_below-more, places_below-has, places_below-in_range, position_or_len-Contains}

-- of one bit, the digits that are set
one_bit : (bit zone : ℕ) → bit < 2 → ones bit ≡ length {A = ℕ} (cond (bit == 1) (zone ∷ []) [])
one_bit zero zone h = ones-ones 0
one_bit (suc zero) zone h = ones-ones 1
one_bit (suc (suc b)) zone h = absurd (omega arith)

-- as many bits are set below a zone as places pass there
pub ones_below : (set zone : ℕ) → ones (set % 2 ^ zone) ≡ length (places_below zone (λ k. bit_at set k == 1))
ones_below set zero =
    let small : ones (set % 2 ^ 0) ≤ 0 = ones-le 0 (set % 2 ^ 0) (mod_below set (2 ^ 0) (pow_pos 0)) in
    omega (arith, small)
ones_below set (suc zone) =
    let bit : ℕ = set / 2 ^ zone % 2 in
    let split : set % 2 ^ (1 + zone) ≡ bit * 2 ^ zone + set % 2 ^ zone = mod-pow-add set 1 zone in
    let both : ones (set % 2 ^ (1 + zone)) ≡ ones bit + ones (set % 2 ^ zone) =
    ap ones split ∙ ones_cat zone bit (set % 2 ^ zone) (mod_below set (2 ^ zone) (pow_pos zone)) in
    let own : ones bit ≡ length (cond (bit == 1) (zone ∷ []) []) = one_bit bit zone (mod_below (set / 2 ^ zone) 2 (omega arith)) in
    let more : length (places_below (zone + 1) (λ k. bit_at set k == 1)) ≡ length (places_below zone (λ k. bit_at set k == 1)) + length (cond (bit == 1) (zone ∷ []) []) =
    ap length (places_below-more zone (λ k. bit_at set k == 1)) ∙ length-append _ _ in
    let sums : ones (set % 2 ^ (1 + zone)) ≡ length (places_below (zone + 1) (λ k. bit_at set k == 1)) = omega (arith, both, own, more, ones_below set zone) in
    let up : suc zone ≡ 1 + zone = omega arith in
    ap (λ i. ones (set % 2 ^ i)) up ∙ sums ∙ ap (λ i. length (places_below i (λ k. bit_at set k == 1))) (add-one zone)

-- the same of a set of zones under the mask of those below one
pub ones_masked : (set zone : ℕ) → zone < 60 → ones (bit_and set ((1 * 2 ^ zone) % 2 ^ 64 - 1)) ≡ length (places_below zone (λ k. bit_at set k == 1))
ones_masked set zone small =
    let plain : 1 * 2 ^ zone ≡ 2 ^ zone = omega arith in
    let whole : (1 * 2 ^ zone) % 2 ^ 64 ≡ 2 ^ zone = ap (λ n. n % 2 ^ 64) plain ∙ mod-eq_of_lt (pow-lt {i = zone} {j = 64} (omega arith)) in
    ap (λ n. ones (bit_and set (n - 1))) whole ∙ ap ones (and_mask set zone) ∙ ones_below set zone

-- a place that was found among the first ones stays where it is
later : (xs : List ℕ) (n zone : ℕ) (b : Bool) → position_or_len (λ k. k == zone) xs < length xs → position_or_len (λ k. k == zone) (xs ++ cond b (n ∷ []) []) ≡ position_or_len (λ k. k == zone) xs
later xs n zone true found =
    position_or_len_push (λ k. k == zone) xs n
    ∙ cond-false (position_or_len (λ k. k == zone) xs == length xs) (length xs + cond (n == zone) 0 1) (position_or_len (λ k. k == zone) xs) (ne_eqb (position_or_len (λ k. k == zone) xs) (length xs) (λ e. omega (arith, e, found)))
later xs n zone false found = ap (position_or_len (λ k. k == zone)) (append-nil xs)

-- a number behind lesser ones stands behind all of them
last : (xs : List ℕ) (n : ℕ) → All (λ k. k < n) xs → position_or_len (λ k. k == n) (xs ++ n ∷ []) ≡ length xs
last xs n below =
    let none : position_or_len (λ k. k == n) xs ≡ length xs =
    position_or_len_is (λ k. k == n) xs (length xs) 0 (omega arith) (λ k h. ne_eqb (get_or xs k 0) n (λ e. omega (arith, e, All-get_or (λ k. k < n) xs k 0 h below))) (λ h. absurd (omega (arith, h))) in
    position_or_len_push (λ k. k == n) xs n
    ∙ cond-true (position_or_len (λ k. k == n) xs == length xs) (length xs + cond (n == n) 0 1) (position_or_len (λ k. k == n) xs) (eq-eqb (position_or_len (λ k. k == n) xs) (length xs) none)
    ∙ ap (λ m. length xs + m) (cond-true (n == n) 0 1 (eq-eqb n n refl)) ∙ omega arith

-- a place that passes stands behind as many places as pass below it
pub position-places_below : (n zone : ℕ) (test : ℕ → Bool) → zone < n → test zone ≡ true → position_or_len (λ k. k == zone) (places_below n test) ≡ length (places_below zone test)
position-places_below zero zone test h passes = absurd (omega arith)
position-places_below (suc n) zone test h passes =
    let step : places_below (suc n) test ≡ places_below n test ++ cond (test n) (n ∷ []) [] = ap (λ i. places_below i test) (sym (add-one n)) ∙ places_below-more n test in
    elim (cases_lt zone n) [
      | inl below ↦ ap (position_or_len (λ k. k == zone)) step ∙ later (places_below n test) n zone (test n) (position_or_len-Contains (places_below n test) zone (places_below-has n zone test below passes)) ∙ position-places_below n zone test below passes
      | inr past ↦
          (let here : zone ≡ n = omega arith in
          ap (position_or_len (λ k. k == zone)) step
          ∙ subst (λ z. test z ≡ true → position_or_len (λ k. k == z) (places_below n test ++ cond (test n) (n ∷ []) []) ≡ length (places_below z test)) (sym here)
          (λ t. ap (λ ys. position_or_len (λ k. k == n) (places_below n test ++ ys)) (cond-true (test n) (n ∷ []) [] t) ∙ last (places_below n test) n (places_below-in_range n test)) passes)
    ]
