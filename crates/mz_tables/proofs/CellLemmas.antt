-- The rows that cells hold, one after another.
use Rattle.std.proofs.Common.{◌≡◌, ℕ, zero, suc, ◌+◌, ◌*◌, ◌<◌, ◌≤◌, List, [], ◌∷◌, ◌++◌, length, drop, get_or, map, Option, Some, None, refl, sym, ◌∙◌, ap, arith, length-drop}
use Rattle.std.specs.List.{All}
use Rattle.std.proofs.lemmas.List.{drop-drop, get_or-drop, get_or_default}
use Rattle.std.proofs.lemmas.List.Elements.{All-cons}
use Rattle.mz_tables.specs.Cells.{kept_of, seen_as, row_in, rows_in}
use Rattle.std.proofs.Math.Nat.{mul-le-mul, mul-le-mul_right}
use Rattle.csv.specs.Records.{field_at}
use Rattle.mz_tables.proofs.RecordLemmas.{field-there}
use Rattle.mz_tables.specs.Table.{Row, field_in, cell_of, row_of}

pub length-row_in : (columns : List (Option ℕ)) (cells : List (List ℕ)) → length (row_in columns cells) ≡ length columns
unfolding row_in
length-row_in [] cells = refl
length-row_in (column ∷ columns) cells = ap suc (length-row_in columns (drop 1 cells))

pub length-rows_in : (columns : List (Option ℕ)) (count : ℕ) (cells : List (List ℕ)) → length (rows_in columns count cells) ≡ count
unfolding rows_in
length-rows_in columns zero cells = refl
length-rows_in columns (suc count) cells = ap suc (length-rows_in columns count (drop (length columns) cells))

kept_as : (fields : List (List ℕ)) (column : Option ℕ) → seen_as column (kept_of fields column) ≡ cell_of fields column
kept_as fields None = refl
kept_as fields (Some place) = refl

-- what is kept of a record is seen as its row
pub row_in-kept : (columns : List (Option ℕ)) (fields : List (List ℕ)) → row_in columns (map (kept_of fields) columns) ≡ row_of columns fields
unfolding row_in
row_in-kept [] fields = refl
row_in-kept (column ∷ columns) fields = cc (kept_as fields column, row_in-kept columns fields)

-- cells behind a row don't change it
row_in-append : (columns : List (Option ℕ)) (cells more : List (List ℕ)) → length columns ≤ length cells → row_in columns (cells ++ more) ≡ row_in columns cells
unfolding row_in
row_in-append [] cells more h = refl
row_in-append (column ∷ columns) [] more h = absurd (omega arith)
row_in-append (column ∷ columns) (cell ∷ cells) more h = ap (λ row. seen_as column cell ∷ row) (row_in-append columns cells more (omega arith))

drop-append : (n : ℕ) (cells more : List (List ℕ)) → n ≤ length cells → drop n (cells ++ more) ≡ drop n cells ++ more
drop-append zero cells more h = refl
drop-append (suc n) [] more h = absurd (omega arith)
drop-append (suc n) (cell ∷ cells) more h = drop-append n cells more (omega arith)

-- the cells of one more row
pub rows_in-more : (columns : List (Option ℕ)) (count : ℕ) (cells more : List (List ℕ)) → length cells ≡ count * length columns → rows_in columns (count + 1) (cells ++ more) ≡ rows_in columns count cells ++ row_in columns more ∷ []
unfolding rows_in
rows_in-more columns zero [] more e = refl
rows_in-more columns zero (cell ∷ cells) more e = absurd (omega arith)
rows_in-more columns (suc count) cells more e =
    let product : suc count * length columns ≡ length columns + count * length columns = omega arith in
    let fits : length columns ≤ length cells = omega arith in
    let turns : suc count + 1 ≡ suc (count + 1) = omega arith in
    let first : row_in columns (cells ++ more) ≡ row_in columns cells = row_in-append columns cells more fits in
    let behind : drop (length columns) (cells ++ more) ≡ drop (length columns) cells ++ more = drop-append (length columns) cells more fits in
    let left : length (drop (length columns) cells) ≡ count * length columns = omega (arith, length-drop (length columns) cells) in
    let later : rows_in columns (count + 1) (drop (length columns) cells ++ more) ≡ rows_in columns count (drop (length columns) cells) ++ row_in columns more ∷ [] = rows_in-more columns count (drop (length columns) cells) more left in
    rw (turns, first, behind, later) refl

-- the row at a place
pub get_or-rows_in : (columns : List (Option ℕ)) (count : ℕ) (cells : List (List ℕ)) (row : ℕ) → row < count → get_or (rows_in columns count cells) row [] ≡ row_in columns (drop (row * length columns) cells)
unfolding rows_in
get_or-rows_in columns zero cells row h = absurd (omega arith)
get_or-rows_in columns (suc count) cells zero h = let none : 0 * length columns ≡ 0 = omega arith in rw none refl
get_or-rows_in columns (suc count) cells (suc row) h = get_or-rows_in columns count (drop (length columns) cells) row (omega arith) ∙ ap (row_in columns) (drop-drop (row * length columns) (length columns) cells ∙ ap (λ n. drop n cells) (omega arith))

-- and the field in it
pub get_or-row_in : (columns : List (Option ℕ)) (cells : List (List ℕ)) (want : ℕ) → get_or (row_in columns cells) want None ≡ seen_as (get_or columns want None) (get_or cells want [])
unfolding row_in
get_or-row_in [] cells want = refl
get_or-row_in (column ∷ columns) cells zero = refl
get_or-row_in (column ∷ columns) [] (suc want) = get_or-row_in columns [] want
get_or-row_in (column ∷ columns) (cell ∷ cells) (suc want) = get_or-row_in columns cells want

-- each row is as wide as there are columns
pub rows_in-wide : (columns : List (Option ℕ)) (count : ℕ) (cells : List (List ℕ)) → All (λ row. length row ≡ length columns) (rows_in columns count cells)
unfolding rows_in
rows_in-wide columns zero cells = λ k d h. absurd (omega arith)
rows_in-wide columns (suc count) cells = All-cons (λ row. length row ≡ length columns) (row_in columns cells) (rows_in columns count (drop (length columns) cells)) (length-row_in columns cells) (rows_in-wide columns count (drop (length columns) cells))

-- what a table's rows and fields are
pub row-wide : (columns : List (Option ℕ)) (count : ℕ) (cells : List (List ℕ)) (rows : List Row) (row : ℕ) → rows_in columns count cells ≡ rows → row < length rows → length (get_or rows row []) ≡ length columns
row-wide columns count cells rows row e h =
    let many : length rows ≡ count = ap length (sym e) ∙ length-rows_in columns count cells in
    ap (λ r. length (get_or r row [])) (sym e) ∙ (ap length (get_or-rows_in columns count cells row (omega arith)) ∙ length-row_in columns (drop (row * length columns) cells))

pub field_in-rows : (columns : List (Option ℕ)) (count : ℕ) (cells : List (List ℕ)) (rows : List Row) (row want : ℕ) → rows_in columns count cells ≡ rows → row < length rows → field_in rows row want ≡ seen_as (get_or columns want None) (get_or cells (row * length columns + want) [])
field_in-rows columns count cells rows row want e h =
    let many : length rows ≡ count = ap length (sym e) ∙ length-rows_in columns count cells in
    ap (λ r. field_in r row want) (sym e)
    ∙ (ap (λ r. get_or r want None) (get_or-rows_in columns count cells row (omega arith))
    ∙ (get_or-row_in columns (drop (row * length columns) cells) want
    ∙ ap (seen_as (get_or columns want None)) (get_or-drop (row * length columns) cells want [])))

-- the place of a field among the cells
pub cell_within : (count width row want : ℕ) → row < count → want < width → row * width + want < count * width
cell_within count width row want h k =
    let most : suc row * width ≤ count * width = mul-le-mul_right width (omega arith) in
    let product : suc row * width ≡ width + row * width = omega arith in
    omega arith

pub place_fits : (count width row want : ℕ) → row < count → want < width → count ≤ 268435456 → width ≤ 65535 → row * width + want < 17592186044416
place_fits count width row want h k few narrow =
    let within = cell_within count width row want h k in
    let most : count * width ≤ 268435456 * 65535 = mul-le-mul few narrow in
    omega arith

pub field-fits : (columns : List (Option ℕ)) (count : ℕ) (cells : List (List ℕ)) (rows : List Row) (row want width : ℕ) → rows_in columns count cells ≡ rows → row < length rows → want < length (get_or rows row []) → width ≡ length columns → length columns ≤ 65535 → count ≤ 268435456 → row * width + want < 17592186044416
field-fits columns count cells rows row want width e h k same narrow few =
    let many : length rows ≡ count = ap length (sym e) ∙ length-rows_in columns count cells in
    let wide = row-wide columns count cells rows row e h in
    place_fits count width row want (omega arith) (omega arith) few (omega arith)

pub field-some : (columns : List (Option ℕ)) (count : ℕ) (cells : List (List ℕ)) (rows : List Row) (row want width place : ℕ) (column : Option ℕ) → rows_in columns count cells ≡ rows → row < length rows → want < length columns → width ≡ length columns → length cells ≡ count * length columns → column ≡ get_or columns want column → column ≡ Some place → field_at cells (row * width + want) ≡ field_in rows row want
field-some columns count cells rows row want width place column e h k same whole at is =
    let many : length rows ≡ count = ap length (sym e) ∙ length-rows_in columns count cells in
    let there : get_or columns want None ≡ Some place = get_or_default columns want None column k ∙ (sym at ∙ is) in
    let within : row * length columns + want < length cells = omega (arith, cell_within count (length columns) row want (omega arith) k) in
    ap (λ w. field_at cells (row * w + want)) same
    ∙ (field-there cells (row * length columns + want) within
    ∙ sym (field_in-rows columns count cells rows row want e h ∙ ap (λ c. seen_as c (get_or cells (row * length columns + want) [])) there))

pub field-none : (columns : List (Option ℕ)) (count : ℕ) (cells : List (List ℕ)) (rows : List Row) (row want : ℕ) (column : Option ℕ) → rows_in columns count cells ≡ rows → row < length rows → want < length columns → column ≡ get_or columns want column → column ≡ None → ◌≡◌ {A = Option (List ℕ)} None (field_in rows row want)
field-none columns count cells rows row want column e h k at is =
    let there : get_or columns want None ≡ None = get_or_default columns want None column k ∙ (sym at ∙ is) in
    sym (field_in-rows columns count cells rows row want e h ∙ ap (λ c. seen_as c (get_or cells (row * length columns + want) [])) there)
