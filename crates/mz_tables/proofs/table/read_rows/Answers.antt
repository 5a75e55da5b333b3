use Rattle.std.proofs.Common.{◌≡◌, ◌+◌, ◌*◌, ◌++◌, map, length, arith, sym, ◌∙◌, ap}
use Rattle.csv.specs.Records.{fields_of}
use Rattle.mz_tables.specs.Cells.{kept_of}
use Rattle.mz_tables.specs.Reading.{rest_of}
use Rattle.mz_tables.proofs.CellLemmas.{rows_in-wide}
use Rattle.mz_tables.proofs.RowLemmas.{cells-more, rows-even, rows-start, rows-uneven}
use Rattle.mz_tables.proofs.table.read_rows.Goals as goal

pub loop-fields-init : goal.loop-fields-init
loop-fields-init c = record {
  reading = c.requires.reading;
  goes = rows-start c.args.width c.args.columns.items (fields_of c.new-cells.result) (rest_of c.args.reader.now);
  whole = c.new-cells.ensures.partial;
  cells = let none : 0 * length c.args.columns.items ≡ 0 = omega arith in ap length c.new-cells.ensures.fields ∙ sym none;
  few = omega (arith, c.requires.few);
}

pub returns-then-len-width-clause-answer : goal.returns-then-len-width-clause-answer
returns-then-len-width-clause-answer c =
    let takes = rw c.if-branch.true at c.in_ok-next_record.ensures.takes in
    c.loop-fields.invariant.goes
    ∙ rows-uneven c.args.width c.args.columns.items c.loop-fields.count c.len.result (fields_of c.loop-fields.cells) (fields_of c.next_record.new.fields) (rest_of c.loop-fields.reader) (rest_of c.next_record.new.reader) takes c.len.ensures c.if-len-width.true

pub loop-fields-preserved : goal.loop-fields-preserved
loop-fields-preserved c =
    let takes = rw c.if-branch.true at c.in_ok-next_record.ensures.takes in
    let grown = c.in_ok-push_row.ensures.cells ∙ ap (λ columns. fields_of c.loop-fields.cells ++ map (kept_of (fields_of c.next_record.new.fields)) columns) c.deref.ensures.value in
    let inv = c.loop-fields.invariant in
    let one : length (rest_of c.loop-fields.reader) ≡ 1 + length (rest_of c.next_record.new.reader) = omega (arith, ap length takes) in
    record {
      reading = c.in_ok-next_record.ensures.reading;
      goes = inv.goes ∙ rows-even c.args.width c.args.columns.items c.loop-fields.count c.len.result (fields_of c.loop-fields.cells) (fields_of c.push_row.new.cells) (fields_of c.next_record.new.fields) (rest_of c.loop-fields.reader) (rest_of c.next_record.new.reader) takes c.len.ensures c.if-len-width.false inv.cells grown;
      whole = c.in_ok-push_row.ensures.partial;
      cells = cells-more c.args.columns.items c.loop-fields.count (fields_of c.loop-fields.cells) (fields_of c.push_row.new.cells) (fields_of c.next_record.new.fields) inv.cells grown;
      few = omega (arith, inv.few);
    }

pub returns-clause-wide : goal.returns-clause-wide
returns-clause-wide c = rows_in-wide c.args.columns.items c.loop-fields.count (fields_of c.loop-fields.cells)
