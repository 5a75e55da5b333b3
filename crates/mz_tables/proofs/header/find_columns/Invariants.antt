use Rattle.std.proofs.Common.{◌≡◌, None, take}
use Rattle.std.specs.Prelude.{position}
use Rattle.csv.specs.Records.{fields_of}
use Rattle.mz_tables.specs.Header.{columns_of, is_missing}
use Rattle.mz_tables.proofs.header.find_columns.Given as goal

abbrev pub invariant-loop-place : goal.invariant-loop-place
invariant-loop-place l = record {
  columns : l.columns.items ≡ columns_of (fields_of l.header) (take l.place l.wants);
  there : position (is_missing (fields_of l.header)) (take l.place l.wants) ≡ None;
}
