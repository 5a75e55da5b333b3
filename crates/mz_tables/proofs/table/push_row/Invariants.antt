use Rattle.std.proofs.Common.{◌≡◌, ◌++◌, [], map, take}
use Rattle.csv.specs.Records.{fields_of, partial_of}
use Rattle.mz_tables.specs.Cells.{kept_of}
use Rattle.mz_tables.proofs.table.push_row.Given as goal

abbrev pub invariant-loop-column : goal.invariant-loop-column
invariant-loop-column l = record {
  cells : fields_of l.cells ≡ fields_of l.initial.cells ++ map (kept_of (fields_of l.fields)) (take l.column-index l.columns);
  whole : partial_of l.cells ≡ [];
}
