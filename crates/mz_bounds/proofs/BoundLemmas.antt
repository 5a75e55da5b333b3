-- The rows of boundaries, while they are read, and what comes of them.
use Rattle.std.proofs.Common.{◌≡◌, ℕ, ◌+◌, ◌^◌, ◌<◌, ◌≤◌, List, [], ◌∷◌, ◌++◌, length, get_or, Ok, Err, sym, subst, arith}
use Rattle.std.specs.List.{All}
use Rattle.std.proofs.lemmas.List.Elements.{All-nil, All-push}
use Rattle.mz_tables.specs.Table.{Row}
use Rattle.mz_tables.specs.declared.fault.RowFault.{RowFault}
use Rattle.mz_tables.specs.declared.fault.RowFault.TheVariants.{TooMany}
use Rattle.mz_rows.specs.Rows.{RowReader, at_most}
use Rattle.mz_rows.proofs.RowLemmas.{HasRead, at_most-past, at_most-within, by_line, by_line-is, has_read-all, has_read-fault, has_read-more, has_read-none}
use Rattle.mz_bounds.specs.Bounds.{bound_rows}
use Rattle.mz_bounds.specs.Pairs.{bound_in}
use Rattle.mz_bounds.specs.Pairs.{PairRow}

abbrev pub bound_reader : List ℕ → RowReader PairRow
bound_reader units = at_most 1000000 (by_line (bound_in units))

-- the rows before this one have been read
pub record AreBoundsSoFar (units : List ℕ) (rows : List Row) (items : List PairRow) (row : ℕ) : Type 0 where
  pub read : HasRead (bound_reader units) rows items row
  pub low : All (λ item. item.0 ≤ item.1) items
  pub high : All (λ item. item.1 < length units) items
  pub small : All (λ item. item.2 ≤ 10 ^ 18) items
  pub few : row ≤ 1000000

pub bounds-none : (units : List ℕ) (rows : List Row) (items : List PairRow) → items ≡ [] → AreBoundsSoFar units rows items 0
bounds-none units rows items e = subst (λ items. AreBoundsSoFar units rows items 0) (sym e) (record {
  read = has_read-none (bound_reader units) rows;
  low = All-nil (λ item. item.0 ≤ item.1);
  high = All-nil (λ item. item.1 < length units);
  small = All-nil (λ item. item.2 ≤ 10 ^ 18);
  few = omega arith;
})

pub bounds-too_many : (units : List ℕ) (rows : List Row) (items : List PairRow) (row : ℕ) → AreBoundsSoFar units rows items row → row < length rows → 1000000 ≤ row → bound_rows units rows ≡ Err (TooMany (row + 2))
unfolding bound_rows
bounds-too_many units rows items row so_far h many =
    has_read-fault (bound_reader units) rows items row (TooMany (row + 2)) so_far.read h
    (at_most-past 1000000 (by_line (bound_in units)) items (get_or rows row []) row so_far.read.count many)

pub bounds-fault : (units : List ℕ) (rows : List Row) (items : List PairRow) (row : ℕ) (fault : RowFault) → AreBoundsSoFar units rows items row → row < length rows → row < 1000000 → bound_in units (row + 2) (get_or rows row []) ≡ Err fault → bound_rows units rows ≡ Err fault
unfolding bound_rows
bounds-fault units rows items row fault so_far h few e =
    has_read-fault (bound_reader units) rows items row fault so_far.read h
    (at_most-within 1000000 (by_line (bound_in units)) items (get_or rows row []) row (Err fault) so_far.read.count few
    (by_line-is (bound_in units) items (get_or rows row []) row (Err fault) so_far.read.count e))

pub bounds-more : (units : List ℕ) (rows : List Row) (items items' : List PairRow) (row : ℕ) (item : PairRow) → AreBoundsSoFar units rows items row → row < length rows → row < 1000000 → bound_in units (row + 2) (get_or rows row []) ≡ Ok item → item.0 ≤ item.1 → item.1 < length units → item.2 ≤ 10 ^ 18 → items' ≡ items ++ item ∷ [] → AreBoundsSoFar units rows items' (row + 1)
bounds-more units rows items items' row item so_far h few e low high small pushed = subst (λ items. AreBoundsSoFar units rows items (row + 1)) (sym pushed) (record {
  read = has_read-more (bound_reader units) rows items row item so_far.read h
      (at_most-within 1000000 (by_line (bound_in units)) items (get_or rows row []) row (Ok item) so_far.read.count few
      (by_line-is (bound_in units) items (get_or rows row []) row (Ok item) so_far.read.count e));
  low = All-push (λ item. item.0 ≤ item.1) items item so_far.low low;
  high = All-push (λ item. item.1 < length units) items item so_far.high high;
  small = All-push (λ item. item.2 ≤ 10 ^ 18) items item so_far.small small;
  few = omega arith;
})

pub bounds-all : (units : List ℕ) (rows : List Row) (items : List PairRow) (row : ℕ) → AreBoundsSoFar units rows items row → length rows ≤ row → bound_rows units rows ≡ Ok items
unfolding bound_rows
bounds-all units rows items row so_far h = has_read-all (bound_reader units) rows items row so_far.read h
