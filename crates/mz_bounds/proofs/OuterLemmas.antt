-- The outer lengths, while rows are added one by one.
use Rattle.std.proofs.Common.{◌≡◌, ℕ, false, inl, inr, ◌+◌, ◌*◌, ◌^◌, ◌<◌, ◌≤◌, List, [], length, get_or, set, take, refl, ap, sym, ◌∙◌, arith, length-take-le}
use Rattle.std.specs.List.{All}
use Rattle.std.proofs.Math.ListN.{replicate}
use Rattle.std.proofs.lemmas.Bool.{cases_eq}
use Rattle.std.proofs.lemmas.List.{take_all, take_more}
use Rattle.std.proofs.lemmas.List.Elements.{All-take}
use Rattle.mz_num.specs.Places.{list_below}
use Rattle.mz_num.proofs.PlaceLaws.{length-list_below, get_or-list_below, list_below-from, list_below-set, replicate-list_below}
use Rattle.mz_rows.specs.Pairs.{names, pair_sum}
use Rattle.mz_bounds.specs.Pairs.{PairRow}
use Rattle.mz_rows.proofs.AddedPairLemmas.{added-le, added-other, added-same, both_true, first_false, second_false}

-- a row of two units doesn't name one unit twice
apart_pair : (row : PairRow) (unit : ℕ) → (row.0 ≡ row.1 → ⊥) → names unit unit row ≡ false
apart_pair row unit two = elim (cases_eq row.0 unit) [
  | inl e ↦ second_false row.0 row.1 unit unit (λ f. two (e ∙ sym f))
  | inr ne ↦ first_false row.0 row.1 unit unit ne
]

other_pair : (row : PairRow) (unit : ℕ) → (row.0 ≡ unit → ⊥) → names unit unit row ≡ false
other_pair row unit other = first_false row.0 row.1 unit unit other

-- the outer lengths of the rows before this one
abbrev pub AreOuterSoFar : ℕ → List PairRow → ℕ → List ℕ → Type 0
AreOuterSoFar units rows i outer = outer ≡ list_below units (λ unit. pair_sum (take i rows) unit unit)

pub outer-none : (units : ℕ) (rows : List PairRow) (outer : List ℕ) → outer ≡ replicate units 0 → AreOuterSoFar units rows 0 outer
outer-none units rows outer e = e ∙ replicate-list_below units (λ unit. pair_sum [] unit unit) 0 0 (λ k h. refl)

-- a row of two units adds to no outer length
pub outer-skip : (units : ℕ) (rows : List PairRow) (i : ℕ) (outer : List ℕ) (d : PairRow) → AreOuterSoFar units rows i outer → i < length rows → ((get_or rows i d).0 ≡ (get_or rows i d).1 → ⊥) → AreOuterSoFar units rows (i + 1) outer
outer-skip units rows i outer d so_far h two =
    list_below-from units (λ unit. pair_sum (take (i + 1) rows) unit unit) outer 0
    (ap length so_far ∙ length-list_below units (λ unit. pair_sum (take i rows) unit unit))
    (λ k m. ap (λ (ns : List ℕ). get_or ns k 0) so_far ∙ get_or-list_below units k (λ unit. pair_sum (take i rows) unit unit) 0 m
    ∙ sym (added-other (take i rows) (get_or rows i d) k k (apart_pair (get_or rows i d) k two)) ∙ ap (λ rs. pair_sum rs k k) (sym (take_more rows i d h)))

-- a row of one unit adds to its outer length
pub outer-more : (units : ℕ) (rows : List PairRow) (i : ℕ) (outer : List ℕ) (d : PairRow) (old e : ℕ) → AreOuterSoFar units rows i outer → i < length rows → (get_or rows i d).0 ≡ (get_or rows i d).1 → (get_or rows i d).0 < units → old ≡ get_or outer (get_or rows i d).0 e → AreOuterSoFar units rows (i + 1) (set outer (get_or rows i d).0 (old + (get_or rows i d).2))
outer-more units rows i outer d old e so_far h same inside was =
    let row : PairRow = get_or rows i d in
    let value : old ≡ pair_sum (take i rows) row.0 row.0 = was ∙ ap (λ (ns : List ℕ). get_or ns row.0 e) so_far ∙ get_or-list_below units row.0 (λ unit. pair_sum (take i rows) unit unit) e inside in
    ap (λ (ns : List ℕ). set ns row.0 (old + row.2)) so_far
    ∙ list_below-set units row.0 (λ unit. pair_sum (take i rows) unit unit) (λ unit. pair_sum (take (i + 1) rows) unit unit) (old + row.2) 0 inside
    (ap (λ n. n + row.2) value ∙ sym (added-same (take i rows) row row.0 row.0 (both_true row.0 row.1 row.0 row.0 refl (sym same))) ∙ ap (λ rs. pair_sum rs row.0 row.0) (sym (take_more rows i d h)))
    (λ k below other. sym (added-other (take i rows) row k k (other_pair row k (λ e. other (sym e)))) ∙ ap (λ rs. pair_sum rs k k) (sym (take_more rows i d h)))

-- no outer length is too large to be added to
pub outer-small : (units : ℕ) (rows : List PairRow) (i : ℕ) (outer : List ℕ) (k d : ℕ) → AreOuterSoFar units rows i outer → All (λ row. row.2 ≤ 10 ^ 18) rows → i ≤ length rows → k < units → get_or outer k d ≤ i * 10 ^ 18
outer-small units rows i outer k d so_far small h inside =
    let is : get_or outer k d ≡ pair_sum (take i rows) k k = ap (λ (ns : List ℕ). get_or ns k d) so_far ∙ get_or-list_below units k (λ unit. pair_sum (take i rows) unit unit) d inside in
    let le : pair_sum (take i rows) k k ≤ length (take i rows) * 10 ^ 18 = added-le (take i rows) (10 ^ 18) k k (All-take (λ row. row.2 ≤ 10 ^ 18) i rows small) in
    let same : length (take i rows) * 10 ^ 18 ≡ i * 10 ^ 18 = ap (λ n. n * 10 ^ 18) (length-take-le i rows h) in
    omega arith

pub outer-all : (units : ℕ) (rows : List PairRow) (i : ℕ) (outer : List ℕ) → AreOuterSoFar units rows i outer → length rows ≤ i → outer ≡ list_below units (λ unit. pair_sum rows unit unit)
outer-all units rows i outer so_far h = so_far ∙ ap (λ rs. list_below units (λ unit. pair_sum rs unit unit)) (take_all i rows h)

pub length-outer : (units : ℕ) (rows : List PairRow) (i : ℕ) (outer : List ℕ) → AreOuterSoFar units rows i outer → length outer ≡ units
length-outer units rows i outer so_far = ap length so_far ∙ length-list_below units (λ unit. pair_sum (take i rows) unit unit)
