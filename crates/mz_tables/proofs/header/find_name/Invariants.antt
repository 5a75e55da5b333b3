use Rattle.std.proofs.Common.{◌≡◌, ℕ, ◌<◌, [], get_or, false}
use Rattle.csv.specs.Records.{fields_of}
use Rattle.mz_tables.specs.Header.{is_named}
use Rattle.mz_tables.proofs.header.find_name.Given as goal

abbrev pub invariant-loop-place : goal.invariant-loop-place
invariant-loop-place l = (k : ℕ) → k < l.place → is_named l.name (get_or (fields_of l.header) k []) ≡ false
