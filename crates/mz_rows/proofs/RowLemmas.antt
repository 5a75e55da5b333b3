-- A loop over the rows of a table: what has been read so far, and what a row adds to it.
use Rattle.std.proofs.Common.{◌≡◌, ℕ, ◌+◌, ◌<◌, ◌≤◌, Bool, true, false, List, [], ◌∷◌, ◌++◌, length, get_or, drop, map, cond, Result, Ok, Err, refl, ap, sym, ◌∙◌, add-one, arith}
use Rattle.std.proofs.Math.Seq.{drop-cons}
use Rattle.std.proofs.Math.ListN.{drop_of_length-le}
use Rattle.std.proofs.lemmas.Bool.{lt-ltb, le-ltb}
use Rattle.std.proofs.lemmas.List.{length_push}
use Rattle.mz_tables.specs.Ids.{has_id}
use Rattle.mz_tables.specs.Table.{Row}
use Rattle.mz_tables.specs.declared.fault.RowFault.{RowFault}
use Rattle.mz_tables.specs.declared.fault.RowFault.TheVariants.{TooMany, Repeated}
use Rattle.mz_rows.specs.Rows.{RowReader, go_on, line_behind, items_behind, items_of, at_most, unless_earlier, once}

-- the rows before this one have been read, and these are their items
pub record HasRead {Item : Type 0} (read : RowReader Item) (rows : List Row) (earlier : List Item) (row : ℕ) : Type 0 where
  pub so_far : items_of read rows ≡ items_behind read earlier (drop row rows)
  pub count : length earlier ≡ row

pub has_read-none : {Item : Type 0} (read : RowReader Item) (rows : List Row) → HasRead read rows [] 0
unfolding items_of
has_read-none read rows = record { so_far = refl; count = refl }

behind : {Item : Type 0} (read : RowReader Item) (rows : List Row) (earlier : List Item) (row : ℕ) → row < length rows → items_behind read earlier (drop row rows) ≡ go_on (read earlier (get_or rows row [])) (λ item. items_behind read (earlier ++ item ∷ []) (drop (row + 1) rows))
behind read rows earlier row h = rw add-one (ap (items_behind read earlier) (drop-cons rows row [] h))

-- one more row
pub has_read-more : {Item : Type 0} (read : RowReader Item) (rows : List Row) (earlier : List Item) (row : ℕ) (item : Item) → HasRead read rows earlier row → row < length rows → read earlier (get_or rows row []) ≡ Ok item → HasRead read rows (earlier ++ item ∷ []) (row + 1)
has_read-more {Item} read rows earlier row item done h e = record {
  so_far = done.so_far ∙ behind read rows earlier row h ∙ ap (λ (r : Result Item RowFault). go_on r (λ item. items_behind read (earlier ++ item ∷ []) (drop (row + 1) rows))) e;
  count = length_push earlier item ∙ ap (λ n. n + 1) done.count;
}

-- a row that has a fault
pub has_read-fault : {Item : Type 0} (read : RowReader Item) (rows : List Row) (earlier : List Item) (row : ℕ) (fault : RowFault) → HasRead read rows earlier row → row < length rows → read earlier (get_or rows row []) ≡ Err fault → items_of read rows ≡ Err fault
has_read-fault {Item} read rows earlier row fault done h e = done.so_far ∙ behind read rows earlier row h ∙ ap (λ (r : Result Item RowFault). go_on r (λ item. items_behind read (earlier ++ item ∷ []) (drop (row + 1) rows))) e

-- no row is left
pub has_read-all : {Item : Type 0} (read : RowReader Item) (rows : List Row) (earlier : List Item) (row : ℕ) → HasRead read rows earlier row → length rows ≤ row → items_of read rows ≡ Ok earlier
has_read-all read rows earlier row done h = done.so_far ∙ ap (items_behind read earlier) (drop_of_length-le rows h)

-- ---- what the n-th row reads as, counted from 0

-- a row that is read by itself, at its line
abbrev pub by_line : {Item : Type 0} → (ℕ → Row → Result Item RowFault) → RowReader Item
by_line base earlier row = base (line_behind earlier) row

pub by_line-is : {Item : Type 0} (base : ℕ → Row → Result Item RowFault) (earlier : List Item) (row : Row) (n : ℕ) (answer : Result Item RowFault) → length earlier ≡ n → base (n + 2) row ≡ answer → by_line base earlier row ≡ answer
by_line-is base earlier row n answer count e = ap (λ k. base (k + 2) row) count ∙ e

-- under a limit on rows
pub at_most-past : {Item : Type 0} (limit : ℕ) (read : RowReader Item) (earlier : List Item) (row : Row) (n : ℕ) → length earlier ≡ n → limit ≤ n → at_most limit read earlier row ≡ Err (TooMany (n + 2))
at_most-past {Item} limit read earlier row n count h = ap (λ b. cond b (read earlier row) (Err (TooMany (line_behind earlier)))) (le-ltb (length earlier) limit (omega arith)) ∙ ap (λ k. Err (TooMany (k + 2))) count

pub at_most-within : {Item : Type 0} (limit : ℕ) (read : RowReader Item) (earlier : List Item) (row : Row) (n : ℕ) (answer : Result Item RowFault) → length earlier ≡ n → n < limit → read earlier row ≡ answer → at_most limit read earlier row ≡ answer
at_most-within {Item} limit read earlier row n answer count h e = ap (λ b. cond b (read earlier row) (Err (TooMany (line_behind earlier)))) (lt-ltb (length earlier) limit (omega arith)) ∙ e

-- where no key stands twice
pub once-fault : {Item : Type 0} (key : Item → ℕ) (read : RowReader Item) (earlier : List Item) (row : Row) (fault : RowFault) → read earlier row ≡ Err fault → once key read earlier row ≡ Err fault
once-fault {Item} key read earlier row fault e = ap (λ (r : Result Item RowFault). go_on r (λ item. unless_earlier (has_id (map key earlier) (key item)) (line_behind earlier) item)) e

once_as : {Item : Type 0} (key : Item → ℕ) (read : RowReader Item) (earlier : List Item) (row : Row) (item : Item) (b : Bool) → read earlier row ≡ Ok item → has_id (map key earlier) (key item) ≡ b → once key read earlier row ≡ unless_earlier b (line_behind earlier) item
once_as {Item} key read earlier row item b e known =
    ap (λ (r : Result Item RowFault). go_on r (λ item. unless_earlier (has_id (map key earlier) (key item)) (line_behind earlier) item)) e
    ∙ ap (λ b. unless_earlier b (line_behind earlier) item) known

pub once-new : {Item : Type 0} (key : Item → ℕ) (read : RowReader Item) (earlier : List Item) (row : Row) (item : Item) → read earlier row ≡ Ok item → has_id (map key earlier) (key item) ≡ false → once key read earlier row ≡ Ok item
once-new key read earlier row item e new = once_as key read earlier row item false e new

pub once-repeated : {Item : Type 0} (key : Item → ℕ) (read : RowReader Item) (earlier : List Item) (row : Row) (n : ℕ) (item : Item) → length earlier ≡ n → read earlier row ≡ Ok item → has_id (map key earlier) (key item) ≡ true → once key read earlier row ≡ Err (Repeated (n + 2))
once-repeated key read earlier row n item count e known = once_as key read earlier row item true e known ∙ ap (λ k. Err (Repeated (k + 2))) count

-- ---- few rows with distinct ids, as those of units, zones, costs and features

abbrev pub listed : {Item : Type 0} → ℕ → (Item → ℕ) → (ℕ → Row → Result Item RowFault) → RowReader Item
listed limit id base = at_most limit (once id (by_line base))

pub listed-past : {Item : Type 0} (limit : ℕ) (id : Item → ℕ) (base : ℕ → Row → Result Item RowFault) (rows : List Row) (earlier : List Item) (n : ℕ) → HasRead (listed limit id base) rows earlier n → n < length rows → limit ≤ n → items_of (listed limit id base) rows ≡ Err (TooMany (n + 2))
listed-past limit id base rows earlier n done h many =
    has_read-fault (listed limit id base) rows earlier n (TooMany (n + 2)) done h (at_most-past limit (once id (by_line base)) earlier (get_or rows n []) n done.count many)

pub listed-fault : {Item : Type 0} (limit : ℕ) (id : Item → ℕ) (base : ℕ → Row → Result Item RowFault) (rows : List Row) (earlier : List Item) (n : ℕ) (fault : RowFault) → HasRead (listed limit id base) rows earlier n → n < length rows → n < limit → base (n + 2) (get_or rows n []) ≡ Err fault → items_of (listed limit id base) rows ≡ Err fault
listed-fault limit id base rows earlier n fault done h few e =
    has_read-fault (listed limit id base) rows earlier n fault done h
    (at_most-within limit (once id (by_line base)) earlier (get_or rows n []) n (Err fault) done.count few
    (once-fault id (by_line base) earlier (get_or rows n []) fault (by_line-is base earlier (get_or rows n []) n (Err fault) done.count e)))

pub listed-repeated : {Item : Type 0} (limit : ℕ) (id : Item → ℕ) (base : ℕ → Row → Result Item RowFault) (rows : List Row) (earlier : List Item) (n : ℕ) (item : Item) (ids : List ℕ) → HasRead (listed limit id base) rows earlier n → n < length rows → n < limit → base (n + 2) (get_or rows n []) ≡ Ok item → ids ≡ map id earlier → has_id ids (id item) ≡ true → items_of (listed limit id base) rows ≡ Err (Repeated (n + 2))
listed-repeated limit id base rows earlier n item ids done h few e are known =
    has_read-fault (listed limit id base) rows earlier n (Repeated (n + 2)) done h
    (at_most-within limit (once id (by_line base)) earlier (get_or rows n []) n (Err (Repeated (n + 2))) done.count few
    (once-repeated id (by_line base) earlier (get_or rows n []) n item done.count (by_line-is base earlier (get_or rows n []) n (Ok item) done.count e) (ap (λ (is : List ℕ). has_id is (id item)) (sym are) ∙ known)))

pub listed-more : {Item : Type 0} (limit : ℕ) (id : Item → ℕ) (base : ℕ → Row → Result Item RowFault) (rows : List Row) (earlier : List Item) (n : ℕ) (item : Item) (ids : List ℕ) → HasRead (listed limit id base) rows earlier n → n < length rows → n < limit → base (n + 2) (get_or rows n []) ≡ Ok item → ids ≡ map id earlier → has_id ids (id item) ≡ false → HasRead (listed limit id base) rows (earlier ++ item ∷ []) (n + 1)
listed-more limit id base rows earlier n item ids done h few e are new =
    has_read-more (listed limit id base) rows earlier n item done h
    (at_most-within limit (once id (by_line base)) earlier (get_or rows n []) n (Ok item) done.count few
    (once-new id (by_line base) earlier (get_or rows n []) item (by_line-is base earlier (get_or rows n []) n (Ok item) done.count e) (ap (λ (is : List ℕ). has_id is (id item)) (sym are) ∙ new)))
