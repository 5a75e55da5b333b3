-- The rows of records, read one after another.
use Rattle.std.proofs.Common.{◌≡◌, ◌≢◌, ℕ, ◌+◌, ◌*◌, true, false, List, [], ◌∷◌, ◌++◌, length, map, Option, Some, None, Result, Ok, Err, refl, sym, ◌∙◌, ap, arith, append_assoc, length-append, subst}
use Rattle.std.specs.Prelude.{◌==◌, not}
use Rattle.std.proofs.lemmas.List.{length-map}
use Rattle.std.proofs.lemmas.Bool.Decides.{nat_tests}
use Rattle.csv.specs.Reading.{records, strip_bom}
use Rattle.mz_tables.specs.Header.{columns_of, is_missing}
use Rattle.mz_tables.specs.Missing.{IsMissingFault}
use Rattle.mz_tables.specs.declared.wants.Want.{Want}
use Rattle.std.proofs.lemmas.List.{append-nil}
use Rattle.std.specs.Prelude.{position}
use Rattle.std.specs.List.{position_from}
use Rattle.std.proofs.lemmas.Iterator.Adapters.{position_from-zero}
use Rattle.mz_tables.specs.Cells.{kept_of, rows_in}
use Rattle.mz_tables.specs.Table.{Row, Answers, is_uneven, made_of, read_table, row_of, table_rows, table_config, unless_missing, unless_uneven}
use Rattle.mz_tables.specs.declared.fault.TableFault.{TableFault}
use Rattle.mz_tables.specs.declared.fault.TableFault.TheVariants.{NoHeader, ColumnMissing, Uneven, NoMemory}
use Rattle.mz_tables.proofs.CellLemmas.{length-rows_in, row_in-kept, rows_in-more}

-- the answer where these rows were read already and these records are left
abbrev pub rows_after : ℕ → List (Option ℕ) → List Row → List (List (List ℕ)) → Result (List Row) TableFault
rows_after width columns got left = unless_uneven (position_from (is_uneven width) (length got) left) (got ++ map (row_of columns) left)

pub rows_after-start : (width : ℕ) (columns : List (Option ℕ)) (left : List (List (List ℕ))) → table_rows width columns left ≡ rows_after width columns [] left
unfolding table_rows
rows_after-start width columns left = ap (λ first. unless_uneven first (map (row_of columns) left)) (position_from-zero (is_uneven width) left)

pub rows_after-end : (width : ℕ) (columns : List (Option ℕ)) (got : List Row) (left : List (List (List ℕ))) → left ≡ [] → rows_after width columns got left ≡ Ok got
rows_after-end width columns got left e = rw e (ap Ok (append-nil got))

pub rows_after-uneven : (width : ℕ) (columns : List (Option ℕ)) (got : List Row) (fields : List (List ℕ)) (left rest : List (List (List ℕ))) → left ≡ fields ∷ rest → is_uneven width fields ≡ true → rows_after width columns got left ≡ Err (Uneven (length got + 2))
rows_after-uneven width columns got fields left rest e uneven = rw (e, uneven) refl

pub rows_after-even : (width : ℕ) (columns : List (Option ℕ)) (got : List Row) (fields : List (List ℕ)) (left rest : List (List (List ℕ))) → left ≡ fields ∷ rest → is_uneven width fields ≡ false → rows_after width columns got left ≡ rows_after width columns (got ++ row_of columns fields ∷ []) rest
rows_after-even width columns got fields left rest e even = rw (e, even) (simp (length-append, append_assoc) refl)

-- the same, over the cells that are kept
pub rows-start : (width : ℕ) (columns : List (Option ℕ)) (cells : List (List ℕ)) (left : List (List (List ℕ))) → table_rows width columns left ≡ rows_after width columns (rows_in columns 0 cells) left
unfolding rows_in
rows-start width columns cells left = rows_after-start width columns left

uneven-true : (n width : ℕ) → n ≢ width → not (n == width) ≡ true
uneven-true n width ne = grind (arith, nat_tests)

uneven-false : (n width : ℕ) → n ≡ width → not (n == width) ≡ false
uneven-false n width e = grind (arith, nat_tests)

pub rows-uneven : (width : ℕ) (columns : List (Option ℕ)) (count n : ℕ) (cells : List (List ℕ)) (fields : List (List ℕ)) (left rest : List (List (List ℕ))) → left ≡ fields ∷ rest → n ≡ length fields → n ≢ width → rows_after width columns (rows_in columns count cells) left ≡ Err (Uneven (count + 2))
rows-uneven width columns count n cells fields left rest e same ne =
    rows_after-uneven width columns (rows_in columns count cells) fields left rest e (ap (λ k. not (k == width)) (sym same) ∙ uneven-true n width ne)
    ∙ ap (λ k. Err (Uneven (k + 2))) (length-rows_in columns count cells)

pub rows-even : (width : ℕ) (columns : List (Option ℕ)) (count n : ℕ) (cells more : List (List ℕ)) (fields : List (List ℕ)) (left rest : List (List (List ℕ))) → left ≡ fields ∷ rest → n ≡ length fields → n ≡ width → length cells ≡ count * length columns → more ≡ cells ++ map (kept_of fields) columns → rows_after width columns (rows_in columns count cells) left ≡ rows_after width columns (rows_in columns (count + 1) more) rest
rows-even width columns count n cells more fields left rest e same even whole grown =
    rows_after-even width columns (rows_in columns count cells) fields left rest e (ap (λ k. not (k == width)) (sym same) ∙ uneven-false n width even)
    ∙ ap (λ got. rows_after width columns got rest)
    (ap (λ row. rows_in columns count cells ++ row ∷ []) (sym (row_in-kept columns fields))
    ∙ sym (ap (rows_in columns (count + 1)) grown ∙ rows_in-more columns count cells (map (kept_of fields) columns) whole))

pub cells-more : (columns : List (Option ℕ)) (count : ℕ) (cells more : List (List ℕ)) (fields : List (List ℕ)) → length cells ≡ count * length columns → more ≡ cells ++ map (kept_of fields) columns → length more ≡ (count + 1) * length columns
cells-more columns count cells more fields whole grown =
    let sum : length more ≡ length cells + length columns = ap length grown ∙ (length-append cells (map (kept_of fields) columns) ∙ ap (λ n. length cells + n) (length-map columns (kept_of fields))) in
    omega arith

-- the answer at each end of a reading
pub read-none : (bytes : List ℕ) (wants : List Want) (rest : List (List (List ℕ))) → rest ≡ records (table_config bytes) (strip_bom bytes) → rest ≡ [] → read_table bytes wants ≡ Err NoHeader
unfolding read_table made_of
read-none bytes wants rest e none = ap (λ r. made_of r wants) (sym e ∙ none)

read_missing_at : (bytes : List ℕ) (wants : List Want) (header : List (List ℕ)) (all rest : List (List (List ℕ))) (place : ℕ) → all ≡ records (table_config bytes) (strip_bom bytes) → all ≡ header ∷ rest → position (is_missing header) wants ≡ Some place → read_table bytes wants ≡ Err (ColumnMissing place)
unfolding read_table made_of
read_missing_at bytes wants header all rest place e is missing =
    ap (λ r. made_of r wants) (sym e ∙ is) ∙ ap (λ first. unless_missing first (table_rows (length header) (columns_of header wants) rest)) missing

read-missing : (bytes : List ℕ) (wants : List Want) (header : List (List ℕ)) (all rest : List (List (List ℕ))) (fault : TableFault) → all ≡ records (table_config bytes) (strip_bom bytes) → all ≡ header ∷ rest → IsMissingFault fault (position (is_missing header) wants) → Answers (Err fault) (read_table bytes wants)
read-missing bytes wants header all rest NoHeader e is h = absurd h
read-missing bytes wants header all rest (ColumnMissing place) e is h = read_missing_at bytes wants header all rest place e is h
read-missing bytes wants header all rest (Uneven line) e is h = absurd h
read-missing bytes wants header all rest NoMemory e is h = tt

pub read-refused : (bytes : List ℕ) (wants seen : List Want) (header : List (List ℕ)) (all rest : List (List (List ℕ))) (fault given : TableFault) (result : Result (List Row) TableFault) → all ≡ records (table_config bytes) (strip_bom bytes) → all ≡ header ∷ rest → seen ≡ wants → IsMissingFault fault (position (is_missing header) seen) → result ≡ Err given → given ≡ fault → Answers result (read_table bytes wants)
read-refused bytes wants seen header all rest fault given result e is same h r g =
    subst (λ answer. Answers answer (read_table bytes wants)) (sym (r ∙ ap Err g))
    (read-missing bytes wants header all rest fault e is (subst (λ list. IsMissingFault fault (position (is_missing header) list)) same h))

pub read-rows : (bytes : List ℕ) (wants : List Want) (header : List (List ℕ)) (all rest : List (List (List ℕ))) (columns : List (Option ℕ)) (width : ℕ) (result : Result (List Row) TableFault) → all ≡ records (table_config bytes) (strip_bom bytes) → all ≡ header ∷ rest → position (is_missing header) wants ≡ None → columns ≡ columns_of header wants → width ≡ length header → Answers result (table_rows width columns rest) → Answers result (read_table bytes wants)
unfolding read_table made_of
read-rows bytes wants header all rest columns width result e is there same wide h =
    let whole : read_table bytes wants ≡ table_rows width columns rest =
    ap (λ r. made_of r wants) (sym e ∙ is)
    ∙ (ap (λ first. unless_missing first (table_rows (length header) (columns_of header wants) rest)) there
    ∙ (ap (λ cs. table_rows (length header) cs rest) (sym same) ∙ ap (λ n. table_rows n columns rest) (sym wide))) in
    subst (λ made. Answers result made) (sym whole) h
