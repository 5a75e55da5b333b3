-- The rows of amounts, while they are read.
use Rattle.std.proofs.Common.{◌≡◌, ℕ, ◌+◌, ◌<◌, ◌≤◌, List, [], ◌∷◌, ◌++◌, length, get_or, Result, Ok, Err, sym, subst, arith}
use Rattle.std.specs.List.{All}
use Rattle.std.proofs.lemmas.List.{length_push}
use Rattle.std.proofs.lemmas.List.Elements.{All-push}
use Rattle.mz_tables.specs.Table.{Row}
use Rattle.mz_tables.specs.declared.fault.RowFault.{RowFault}
use Rattle.mz_tables.specs.declared.fault.RowFault.TheVariants.{TooMany}
use Rattle.mz_rows.specs.Rows.{RowReader, at_most, items_of}
use Rattle.mz_rows.proofs.RowLemmas.{HasRead, has_read-none, has_read-more, has_read-fault, has_read-all, at_most-past, at_most-within, by_line, by_line-is}
use Rattle.mz_targets.specs.Amounts.{Amount, IsAmountRow, amount_in, amount_rows}

abbrev pub amount_reader : List ℕ → List ℕ → RowReader Amount
amount_reader units features = at_most 5000000 (by_line (amount_in units features))

-- what the rows before this one gave
pub record AreAmountsSoFar (units features : List ℕ) (rows : List Row) (amounts : List Amount) (row : ℕ) : Type 0 where
  pub read : HasRead (amount_reader units features) rows amounts row
  pub each : All (IsAmountRow (length units) (length features)) amounts
  pub few : length amounts ≤ 5000000

pub amounts-none : (units features : List ℕ) (rows : List Row) (amounts : List Amount) → amounts ≡ [] → AreAmountsSoFar units features rows amounts 0
amounts-none units features rows amounts none = subst (λ (taken : List Amount). AreAmountsSoFar units features rows taken 0) (sym none) (record {
  read = has_read-none (amount_reader units features) rows;
  each = λ k d h. absurd (omega arith);
  few = omega arith;
})

whole : (units features : List ℕ) (rows : List Row) (answer : Result (List Amount) RowFault) → items_of (amount_reader units features) rows ≡ answer → amount_rows units features rows ≡ answer
unfolding amount_rows
whole units features rows answer e = e

pub amounts-too_many : (units features : List ℕ) (rows : List Row) (amounts : List Amount) (row : ℕ) → AreAmountsSoFar units features rows amounts row → row < length rows → 5000000 ≤ row → amount_rows units features rows ≡ Err (TooMany (row + 2))
amounts-too_many units features rows amounts row so_far h many =
    whole units features rows (Err (TooMany (row + 2))) (has_read-fault (amount_reader units features) rows amounts row (TooMany (row + 2)) so_far.read h
    (at_most-past 5000000 (by_line (amount_in units features)) amounts (get_or rows row []) row so_far.read.count many))

reads : (units features : List ℕ) (rows : List Row) (amounts : List Amount) (row : ℕ) (answer : Result Amount RowFault) → AreAmountsSoFar units features rows amounts row → row < 5000000 → amount_in units features (row + 2) (get_or rows row []) ≡ answer → amount_reader units features amounts (get_or rows row []) ≡ answer
reads units features rows amounts row answer so_far few e =
    at_most-within 5000000 (by_line (amount_in units features)) amounts (get_or rows row []) row answer so_far.read.count few
    (by_line-is (amount_in units features) amounts (get_or rows row []) row answer so_far.read.count e)

pub amounts-fault : (units features : List ℕ) (rows : List Row) (amounts : List Amount) (row : ℕ) (fault : RowFault) → AreAmountsSoFar units features rows amounts row → row < length rows → row < 5000000 → amount_in units features (row + 2) (get_or rows row []) ≡ Err fault → amount_rows units features rows ≡ Err fault
amounts-fault units features rows amounts row fault so_far h few e =
    whole units features rows (Err fault) (has_read-fault (amount_reader units features) rows amounts row fault so_far.read h (reads units features rows amounts row (Err fault) so_far few e))

pub amounts-more : (units features : List ℕ) (rows : List Row) (amounts : List Amount) (row : ℕ) (item : Amount) (amounts' : List Amount) → AreAmountsSoFar units features rows amounts row → row < length rows → row < 5000000 → amount_in units features (row + 2) (get_or rows row []) ≡ Ok item → IsAmountRow (length units) (length features) item → amounts' ≡ amounts ++ item ∷ [] → AreAmountsSoFar units features rows amounts' (row + 1)
amounts-more units features rows amounts row item amounts' so_far h few e is more = subst (λ (taken : List Amount). AreAmountsSoFar units features rows taken (row + 1)) (sym more) (record {
  read = has_read-more (amount_reader units features) rows amounts row item so_far.read h (reads units features rows amounts row (Ok item) so_far few e);
  each = All-push (IsAmountRow (length units) (length features)) amounts item so_far.each is;
  few = omega (arith, so_far.read.count, length_push amounts item);
})

pub amounts-all : (units features : List ℕ) (rows : List Row) (amounts : List Amount) (row : ℕ) → AreAmountsSoFar units features rows amounts row → length rows ≤ row → amount_rows units features rows ≡ Ok amounts
amounts-all units features rows amounts row so_far h = whole units features rows (Ok amounts) (has_read-all (amount_reader units features) rows amounts row so_far.read h)
