use Rattle.std.proofs.Common.{◌≡◌, ℕ, Bool, true, List, Option, arith, refl}
use Rattle.std.specs.Prelude.{not, is_some}
use Rattle.csv.specs.Records.{fields_of}
use Rattle.mz_tables.specs.Header.{column_of, is_missing}
use Rattle.mz_tables.specs.declared.wants.Want.{Want}
use Rattle.mz_tables.proofs.PositionLemmas.{position-next}
use Rattle.mz_tables.proofs.header.find_columns.Goals as goal

missing-true : (header : List (List ℕ)) (want : Want) (column : Option ℕ) (absent : Bool) → want.needed ≡ true → column ≡ column_of header want → is_some column ≡ not absent → absent ≡ true → is_missing header want ≡ true
missing-true header want column absent needed is some e = rw (← is, some, e, needed) refl

pub returns-then-is_none-clause-fault : goal.returns-then-is_none-clause-fault
returns-then-is_none-clause-fault c =
    position-next (is_missing (fields_of c.args.header.now)) c.args.wants.now c.loop-place.place c.index-wants-place.result c.loop-place.invariant.there (omega arith) c.index-wants-place.is
    (missing-true (fields_of c.args.header.now) c.index-wants-place.result c.find_column-column.result c.is_none.result c.if-want.true c.find_column-column.ensures c.is_none.ensures c.if-is_none.true)
