use Rattle.std.proofs.Common.{◌≡◌, ◌≤◌, ◌+◌, ◌*◌, [], length}
use Rattle.csv.specs.Records.{fields_of, partial_of}
use Rattle.mz_tables.specs.Cells.{rows_in}
use Rattle.mz_tables.specs.Reading.{IsReading, rest_of}
use Rattle.mz_tables.specs.Table.{table_rows}
use Rattle.mz_tables.proofs.RowLemmas.{rows_after}
use Rattle.mz_tables.proofs.table.read_rows.Given as goal

abbrev pub invariant-loop-fields : goal.invariant-loop-fields
invariant-loop-fields l = record {
  reading : IsReading l.reader;
  goes : table_rows l.width l.columns.items (rest_of l.initial.reader) ≡ rows_after l.width l.columns.items (rows_in l.columns.items l.count (fields_of l.cells)) (rest_of l.reader);
  whole : partial_of l.cells ≡ [];
  cells : length (fields_of l.cells) ≡ l.count * length l.columns.items;
  few : l.count + length (rest_of l.reader) ≤ 268435456;
}

abbrev pub decreases-loop-fields : goal.decreases-loop-fields
decreases-loop-fields l = length (rest_of l.reader)
