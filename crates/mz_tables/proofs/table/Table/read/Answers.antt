use Rattle.std.proofs.Common.{◌≡◌, length, arith, sym, ◌∙◌, ap, subst}
use Rattle.std.specs.Prelude.{IfOk, position}
use Rattle.std.specs.List.{All}
use Rattle.std.proofs.lemmas.List.{length-map}
use Rattle.std.proofs.lemmas.Result.{err_from_is_err_and}
use Rattle.csv.specs.Records.{fields_of}
use Rattle.mz_tables.specs.Header.{column_of, columns_of, is_missing}
use Rattle.mz_tables.specs.Reading.{rest_of}
use Rattle.mz_tables.specs.Table.{table_config}
use Rattle.mz_tables.proofs.LeftLemmas.{few-behind}
use Rattle.mz_tables.proofs.RowLemmas.{read-none, read-refused, read-rows}
use Rattle.mz_tables.proofs.table.Table.read.Goals as goal

pub returns-then-not-branch-clause-answer : goal.returns-then-not-branch-clause-answer
returns-then-not-branch-clause-answer c =
    read-none c.args.bytes.now c.args.wants.now (rest_of c.open-reader.result) c.open-reader.ensures.rest (rw c.if-not-branch.true at c.in_ok-next_record.ensures.takes)

pub returns-in_err-columns-clause-answer : goal.returns-in_err-columns-clause-answer
returns-in_err-columns-clause-answer c =
    let takes = rw c.if-not-branch.false at c.in_ok-next_record.ensures.takes in
    let passed = err_from_is_err_and c.from_residual-in_err-columns.result c.from_residual-in_err-columns.ensures.1 in
    read-refused c.args.bytes.now c.args.wants.now c.as_slice.result.now (fields_of c.next_record.new.fields) (rest_of c.open-reader.result) (rest_of c.next_record.new.reader) c.in_err-columns.field-0.0 passed.0 c.from_residual-in_err-columns.result c.open-reader.ensures.rest takes c.as_slice.ensures.wants c.in_err-columns.ensures.fault passed.1 passed.2

pub read_rows-requires-clause-few : goal.read_rows-requires-clause-few
read_rows-requires-clause-few c =
    let takes = rw c.if-not-branch.false at c.in_ok-next_record.ensures.takes in
    omega (arith, few-behind (table_config c.args.bytes.now) c.args.bytes.now (fields_of c.next_record.new.fields) (rest_of c.next_record.new.reader) (sym c.open-reader.ensures.rest ∙ takes), c.requires)

pub returns-clause-answer : goal.returns-clause-answer
returns-clause-answer c =
    let takes = rw c.if-not-branch.false at c.in_ok-next_record.ensures.takes in
    read-rows c.args.bytes.now c.args.wants.now (fields_of c.next_record.new.fields) (rest_of c.open-reader.result) (rest_of c.next_record.new.reader) c.in_ok-columns.columns.items c.len.result c.read_rows.result c.open-reader.ensures.rest takes
    (ap (position (is_missing (fields_of c.next_record.new.fields))) (sym c.as_slice.ensures.wants) ∙ c.in_ok-columns.ensures.there)
    (c.in_ok-columns.ensures.columns ∙ ap (columns_of (fields_of c.next_record.new.fields)) c.as_slice.ensures.wants)
    c.len.ensures c.read_rows.ensures.answer

pub returns-clause-wide : goal.returns-clause-wide
returns-clause-wide c =
    let same : length c.in_ok-columns.columns.items ≡ length c.args.wants.now = ap length (c.in_ok-columns.ensures.columns ∙ ap (columns_of (fields_of c.next_record.new.fields)) c.as_slice.ensures.wants) ∙ length-map c.args.wants.now (column_of (fields_of c.next_record.new.fields)) in
    subst (λ n. IfOk c.read_rows.result (λ table. All (λ row. length row ≡ n) table)) same c.read_rows.ensures.wide
