-- The edges and the outer lengths that come of rows: a row counts for an edge where its units are two.
use Rattle.std.proofs.Common.{◌≡◌, ℕ, ◌*◌, ◌<◌, ◌≤◌, Bool, true, false, cond, List, [], ◌∷◌, length, get_or, Result, Ok, refl, ap, sym, ◌∙◌, subst, arith}
use Rattle.std.specs.Prelude.{◌&&◌, ◌||◌, nat_lt}
use Rattle.std.specs.List.{All, AllPairs, filter, list_any}
use Rattle.std.proofs.lemmas.Bool.{false≢true, ltb-true}
use Rattle.mz_num.specs.Limits.{greatest_quantity, most_boundary_rows}
use Rattle.mz_num.specs.Order.{IsBefore}
use Rattle.mz_num.specs.Places.{list_below}
use Rattle.mz_num.proofs.PlaceLaws.{length-list_below, get_or-list_below}
use Rattle.mz_tables.specs.Table.{Row}
use Rattle.mz_tables.specs.declared.fault.RowFault.{RowFault}
use Rattle.mz_rows.specs.Answer.{IsFaultOf}
use Rattle.mz_rows.specs.Pairs.{added_pairs, names, number_for, pair_sum}
use Rattle.mz_rows.specs.Rows.{go_on}
use Rattle.mz_rows.proofs.AddedLaws.{list_any-filter, pairs_below-same, sum-filter}
use Rattle.mz_rows.proofs.AddedPairLemmas.{added-le, and_left, both_are}
use Rattle.mz_rows.proofs.AnswerLemmas.{fault-on}
use Rattle.mz_rows.proofs.PairListLemmas.{IsPairBelow, pairs_below-each, pairs_below-in_order}
use Rattle.mz_bounds.specs.Bounds.{AreFitBounds, bound_rows, bounds_from, bounds_of, edges_of}
use Rattle.mz_bounds.specs.Pairs.{PairRow}
use Rattle.mz_bounds.specs.declared.bounds.Bounds.{Bounds}

-- a row that counts for an edge
abbrev pub counts : ℕ × ℕ × ℕ → Bool
counts row = nat_lt row.0 row.1

-- the test of a row is that of the pair it names
same_test : (row : PairRow) (u v : ℕ) → names u v row ≡ true → counts row ≡ nat_lt u v
same_test row u v named = let are = both_are row.0 row.1 u v named in ap (λ n. nat_lt n row.1) are.0 ∙ ap (nat_lt u) are.1

two_first : (named less less' rest rest' : Bool) → (named ≡ true → less ≡ less') → rest' ≡ (less' && rest) → ((less && named) || rest') ≡ (less' && (named || rest))
two_first true true true rest rest' same e = refl
two_first true true false rest rest' same e = absurd (false≢true (sym (same refl)))
two_first true false true rest rest' same e = absurd (false≢true (same refl))
two_first true false false rest rest' same e = e
two_first false true less' rest rest' same e = e
two_first false false less' rest rest' same e = e

no_rows : (b : Bool) → false ≡ (b && false)
no_rows true = refl
no_rows false = refl

named-counted : (rows : List PairRow) (u v : ℕ) → list_any (λ row. counts row && names u v row) rows ≡ (nat_lt u v && list_any (names u v) rows)
named-counted [] u v = no_rows (nat_lt u v)
named-counted (row ∷ rows) u v = two_first (names u v row) (counts row) (nat_lt u v) (list_any (names u v) rows) (list_any (λ row. counts row && names u v row) rows) (same_test row u v) (named-counted rows u v)

not_named : (named : Bool) (x : ℕ) → (named ≡ true → ⊥) → cond named x 0 ≡ 0
not_named true x other = absurd (other refl)
not_named false x other = refl

-- a row that doesn't count adds nothing to two units
sum-counted : (rows : List PairRow) (u v : ℕ) → nat_lt u v ≡ true → pair_sum (filter counts rows) u v ≡ pair_sum rows u v
sum-counted rows u v two = sum-filter (number_for u v) counts rows (λ row e. not_named (names u v row) row.2 (λ named. false≢true (sym e ∙ same_test row u v named ∙ two)))

pub edges-are : (units : ℕ) (rows kept edges : List (ℕ × ℕ × ℕ)) → kept ≡ filter counts rows → edges ≡ added_pairs units units kept → edges ≡ edges_of units rows
edges-are units rows kept edges are e =
    e ∙ ap (added_pairs units units) are
    ∙ pairs_below-same units units (λ u v. list_any (names u v) (filter counts rows)) (λ u v. nat_lt u v && list_any (names u v) rows) (pair_sum (filter counts rows)) (pair_sum rows)
    (λ u v. list_any-filter (names u v) counts rows ∙ named-counted rows u v)
    (λ u v passes. sum-counted rows u v (and_left (nat_lt u v) (list_any (names u v) rows) passes))

-- ---- what the reader answers

bounds_is : (units : ℕ) (rows : List PairRow) (bounds : Bounds) → bounds.edges ≡ edges_of units rows → bounds.outer ≡ list_below units (λ unit. pair_sum rows unit unit) → bounds_from units rows ≡ bounds
bounds_is units rows bounds e f = sym (λ i. record { edges = e i; outer = f i })

pub bounds-are : (units : List ℕ) (table : List Row) (rows : List (ℕ × ℕ × ℕ)) (bounds : Bounds) → bound_rows units table ≡ Ok rows → bounds.edges ≡ edges_of (length units) rows → bounds.outer ≡ list_below (length units) (λ unit. pair_sum rows unit unit) → bounds_of units table ≡ Ok bounds
unfolding bounds_of
bounds-are units table rows bounds e are outer =
    ap (λ (made : Result (List PairRow) RowFault). go_on made (λ read. Ok (bounds_from (length units) read))) e
    ∙ ap Ok (bounds_is (length units) rows bounds are outer)

-- the first fault of the rows
pub bounds-stopped : (units : List ℕ) (table : List Row) (fault : RowFault) → IsFaultOf fault (bound_rows units table) → IsFaultOf fault (bounds_of units table)
unfolding bounds_of
bounds-stopped units table fault is =
    fault-on fault (bound_rows units table) (go_on (bound_rows units table) (λ read. Ok (bounds_from (length units) read))) is
    (λ f e. ap (λ (made : Result (List PairRow) RowFault). go_on made (λ read. Ok (bounds_from (length units) read))) e)

-- what an edge of the definition is
edge-is : (units : ℕ) (rows edges : List PairRow) (k : ℕ) (d : PairRow) → edges ≡ edges_of units rows → k < length edges → IsPairBelow units units (λ low high. nat_lt low high && list_any (names low high) rows) (pair_sum rows) (get_or edges k d)
edge-is units rows edges k d are h = subst (All (IsPairBelow units units (λ low high. nat_lt low high && list_any (names low high) rows) (pair_sum rows))) (sym are) (pairs_below-each units units (λ low high. nat_lt low high && list_any (names low high) rows) (pair_sum rows)) k d h

pub bounds-fit : (units : ℕ) (rows : List (ℕ × ℕ × ℕ)) (bounds : Bounds) → length rows ≤ most_boundary_rows → All (λ row. row.2 ≤ greatest_quantity) rows → bounds.edges ≡ edges_of units rows → length bounds.edges ≤ length rows → bounds.outer ≡ list_below units (λ unit. pair_sum rows unit unit) → AreFitBounds units bounds
bounds-fit units rows bounds few small are fewer e = record {
  few = omega arith;
  of_two = λ k d h. ltb-true (get_or bounds.edges k d).0 (get_or bounds.edges k d).1 (and_left (nat_lt (get_or bounds.edges k d).0 (get_or bounds.edges k d).1) (list_any (names (get_or bounds.edges k d).0 (get_or bounds.edges k d).1) rows) (edge-is units rows bounds.edges k d are h).passes);
  in_range = λ k d h. (edge-is units rows bounds.edges k d are h).second_below;
  in_order = subst (λ (edges : List PairRow). AllPairs IsBefore edges) (sym are) (pairs_below-in_order units units (λ low high. nat_lt low high && list_any (names low high) rows) (pair_sum rows));
  small = λ k d h. (let is : (get_or bounds.edges k d).2 ≡ pair_sum rows (get_or bounds.edges k d).0 (get_or bounds.edges k d).1 = (edge-is units rows bounds.edges k d are h).has_number in
      let le : pair_sum rows (get_or bounds.edges k d).0 (get_or bounds.edges k d).1 ≤ length rows * greatest_quantity = added-le rows greatest_quantity (get_or bounds.edges k d).0 (get_or bounds.edges k d).1 small in
      omega arith);
  all_units = ap length e ∙ length-list_below units (λ unit. pair_sum rows unit unit);
  small_outer = λ k d h. (let inside : k < units = omega (arith, ap length e, length-list_below units (λ unit. pair_sum rows unit unit)) in
      let is : get_or bounds.outer k d ≡ pair_sum rows k k = ap (λ (ns : List ℕ). get_or ns k d) e ∙ get_or-list_below units k (λ unit. pair_sum rows unit unit) d inside in
      let le : pair_sum rows k k ≤ length rows * greatest_quantity = added-le rows greatest_quantity k k small in
      omega arith);
}
