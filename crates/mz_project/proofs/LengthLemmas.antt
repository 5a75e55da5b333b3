-- Rates and lengths of boundaries above the limit, and the terms of both.
use Rattle.std.proofs.Common.{◌≡◌, ℕ, ◌+◌, ◌*◌, ◌/◌, ◌^◌, ◌<◌, ◌≤◌, Bool, true, false, ltb, leb, List, length, get_or, inl, inr, sym, ap, ◌∙◌, arith}
use Rattle.std.specs.Prelude.{slice_index}
use Rattle.std.specs.List.{All, list_any}
use Rattle.std.proofs.lemmas.Bool.{cases_lt, lt-ltb, le-ltb, le-leb, lt-leb}
use Rattle.std.proofs.Math.Nat.{le-div_iff_mul-le, div-lt_iff_lt-mul}
use Rattle.mz_num.specs.Round.{round}
use Rattle.mz_num.specs.Places.{greatest_below}
use Rattle.mz_bounds.specs.declared.bounds.Bounds.{Bounds}
use Rattle.mz_project.specs.declared.limits.lengths.Lengths.{Lengths}
use Rattle.mz_project.specs.Lengths.{lengths_of}
use Rattle.mz_project.specs.Limits.{is_above}
use Rattle.mz_project.proofs.AboveLemmas.{no_thing_above, none_above, some_above, some_thing_above}

-- of numbers that are others
pub number_above : (all numbers : List ℕ) → numbers ≡ all → ((k : ℕ) × (k < length numbers) × (10 ^ 18 < slice_index numbers k)) → list_any is_above all ≡ true
number_above all numbers same (k, within, above) = ap (list_any is_above) (sym same) ∙ some_above numbers k within above

pub numbers_within : (all numbers : List ℕ) → numbers ≡ all → All (λ number. number ≤ 10 ^ 18) numbers → list_any is_above all ≡ false
numbers_within all numbers same small = ap (list_any is_above) (sym same) ∙ none_above numbers small

-- of rows with a number each
abbrev pub is_row_above : ℕ × ℕ × ℕ → Bool
is_row_above row = is_above row.2

pub row_above : (all rows : List (ℕ × ℕ × ℕ)) → rows ≡ all → ((k : ℕ) × (k < length rows) × (10 ^ 18 < (get_or rows k (0, 0, 0)).2)) → list_any is_row_above all ≡ true
row_above all rows same (k, within, above) = ap (list_any is_row_above) (sym same) ∙ some_thing_above (λ (row : ℕ × ℕ × ℕ). row.2) rows k (0, 0, 0) within above

pub rows_within : (all rows : List (ℕ × ℕ × ℕ)) → rows ≡ all → All (λ (row : ℕ × ℕ × ℕ). row.2 ≤ 10 ^ 18) rows → list_any is_row_above all ≡ false
rows_within all rows same small = ap (list_any is_row_above) (sym same) ∙ no_thing_above (λ (row : ℕ × ℕ × ℕ). row.2) rows small

-- a number of millionths that rounds to more than the limit
rounds-above : (p limit : ℕ) → limit * 1000000 + 500000 ≤ p → limit < round p 1000000
unfolding round
rounds-above p limit much =
    let next : limit + 1 ≤ (2 * p + 1000000) / (2 * 1000000) = (le-div_iff_mul-le {k = 2 * 1000000} {x = limit + 1} {y = 2 * p + 1000000} (omega arith)).1 (omega (arith, much)) in
    omega (arith, next)

rounds-within : (p limit : ℕ) → p < limit * 1000000 + 500000 → round p 1000000 ≤ limit
unfolding round
rounds-within p limit few =
    let below : (2 * p + 1000000) / (2 * 1000000) < limit + 1 = (div-lt_iff_lt-mul {k = 2 * 1000000} {x = 2 * p + 1000000} {y = limit + 1} (omega arith)).1 (omega (arith, few)) in
    omega (arith, below)

rounds : (p limit : ℕ) → leb (limit * 1000000 + 500000) p ≡ ltb limit (round p 1000000)
rounds p limit =
    elim (cases_lt p (limit * 1000000 + 500000)) [
      | inl few ↦ lt-leb (limit * 1000000 + 500000) p few ∙ sym (le-ltb limit (round p 1000000) (rounds-within p limit few))
      | inr much ↦ le-leb (limit * 1000000 + 500000) p much ∙ sym (lt-ltb limit (round p 1000000) (rounds-above p limit much))
    ]

pub term-above : (p : ℕ) → leb 1000000000000000000500000 p ≡ is_above (round p 1000000)
term-above p = rounds p 1000000000000000000

-- lengths with the fields of the boundaries
pub same_lengths : (bounds : Bounds) (edges : List (ℕ × ℕ × ℕ)) (outer : List ℕ) → edges ≡ bounds.edges → outer ≡ bounds.outer → ◌≡◌ {A = Lengths} (record { edges = edges; outer = outer }) (lengths_of bounds)
same_lengths bounds edges outer same_edges same_outer = λ k. record { edges = same_edges k; outer = same_outer k }

-- tests of the terms under the greatest rate
abbrev pub some_edge : ℕ → List (ℕ × ℕ × ℕ) → Bool
some_edge rate edges = list_any (λ (edge : ℕ × ℕ × ℕ). is_above (round (edge.2 * rate) (10 ^ 6))) edges

abbrev pub some_outer : ℕ → List ℕ → Bool
some_outer rate lengths = list_any (λ len. is_above (round (len * rate) (10 ^ 6))) lengths

pub edge_found : (rates : List ℕ) (rate : ℕ) (edges items : List (ℕ × ℕ × ℕ)) (answer found : Bool) → rate ≡ greatest_below (length rates) (slice_index rates) → items ≡ edges → answer ≡ some_edge rate items → answer ≡ found
    → some_edge (greatest_below (length rates) (slice_index rates)) edges ≡ found
edge_found rates rate edges items answer found greatest same is so = ap (λ r. some_edge r edges) (sym greatest) ∙ ap (some_edge rate) (sym same) ∙ sym is ∙ so

pub outer_found : (rates : List ℕ) (rate : ℕ) (lengths items : List ℕ) (answer found : Bool) → rate ≡ greatest_below (length rates) (slice_index rates) → items ≡ lengths → answer ≡ some_outer rate items → answer ≡ found
    → some_outer (greatest_below (length rates) (slice_index rates)) lengths ≡ found
outer_found rates rate lengths items answer found greatest same is so = ap (λ r. some_outer r lengths) (sym greatest) ∙ ap (some_outer rate) (sym same) ∙ sym is ∙ so
