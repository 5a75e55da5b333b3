-- What counts by zone where no file says it.
use Rattle.std.proofs.Common.{◌≡◌, ℕ, zero, suc, ◌+◌, ◌^◌, ◌≤◌, Bool, true, false, cond, List, [], ◌∷◌, ◌++◌, replicate, refl, sym, ap, subst, ◌∙◌, arith, length-append, add-one}
use Rattle.std.specs.Prelude.{◌==◌}
use Rattle.std.specs.List.{flat_map, range_with_len}
use Rattle.std.proofs.lemmas.List.{append-nil, length-replicate, map-id}
use Rattle.std.proofs.lemmas.List.Elements.{All-append, All-replicate}
use Rattle.std.proofs.lemmas.List.FromFn.{map-range_with_len_more}
use Rattle.std.proofs.lemmas.Grind.{flat_map-append}
use Rattle.mz_rows.specs.ByZone.{AreByZone}
use Rattle.mz_project.specs.Defaults.{one_outside, ones_outside}

one_place_more : (n : ℕ) → range_with_len 0 (n + 1) ≡ range_with_len 0 n ++ n ∷ []
one_place_more n = sym (map-id (range_with_len 0 (n + 1))) ∙ map-range_with_len_more (λ (k : ℕ). k) 0 n n (omega arith) ∙ ap (λ xs. xs ++ n ∷ []) (map-id (range_with_len 0 n))

one_zone_more : (zones things available : ℕ) → ones_outside (zones + 1) things available ≡ ones_outside zones things available ++ replicate things (one_outside available zones)
unfolding ones_outside
one_zone_more zones things available =
    ap (flat_map (λ (zone : ℕ). replicate things (one_outside available zone))) (one_place_more zones)
    ∙ flat_map-append (λ (zone : ℕ). replicate things (one_outside available zone)) (range_with_len 0 zones) (zones ∷ [])
    ∙ ap (λ last. flat_map (λ (zone : ℕ). replicate things (one_outside available zone)) (range_with_len 0 zones) ++ last) (append-nil (replicate things (one_outside available zones)))

-- those of one zone more
pub ones-more : (zones things available : ℕ) (before after : List ℕ) (is_available : Bool) → before ≡ ones_outside zones things available → is_available ≡ (zones == available) → after ≡ before ++ replicate things (cond is_available 0 (10 ^ 6))
    → after ≡ ones_outside (zones + 1) things available
ones-more zones things available before after is_available so_far is more =
    more ∙ ap (λ xs. xs ++ replicate things (cond is_available 0 (10 ^ 6))) so_far ∙ ap (λ b. ones_outside zones things available ++ replicate things (cond b 0 (10 ^ 6))) is ∙ sym (one_zone_more zones things available)

pub ones-none : (things available : ℕ) → ones_outside 0 things available ≡ []
unfolding ones_outside
ones-none things available = refl

small : (b : Bool) → cond b 0 (10 ^ 6) ≤ 10 ^ 18
small true = omega arith
small false = omega arith

pub ones-fit : (zones things available : ℕ) → AreByZone zones things (ones_outside zones things available)
ones-fit zero things available = subst (AreByZone 0 things) (sym (ones-none things available)) (record { all_pairs = omega arith; small = λ k d within. absurd (omega arith) })
ones-fit (suc zones) things available =
    let before = ones-fit zones things available in
    let pairs = before.all_pairs in
    let row = length-replicate things (one_outside available zones) in
    let whole = length-append (ones_outside zones things available) (replicate things (one_outside available zones)) in
    subst (AreByZone (suc zones) things) (sym (ap (λ n. ones_outside n things available) (sym (add-one zones)) ∙ one_zone_more zones things available))
    (record {
      all_pairs = omega (arith, pairs, row, whole);
      small = All-append (λ number. number ≤ 10 ^ 18) (ones_outside zones things available) (replicate things (one_outside available zones)) before.small (All-replicate (λ number. number ≤ 10 ^ 18) things (one_outside available zones) (small (zones == available)));
    })
