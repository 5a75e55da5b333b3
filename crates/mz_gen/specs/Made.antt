-- What comes of making files.
use Rattle.std.specs.Prelude.{List, Result, Ok, Err}
use Rattle.mz_shelf.specs.State.{State}
use Rattle.mz_shelf.specs.Act.{Act}
use Rattle.mz_shelf.specs.Chain.{DidAll, StoppedAt, StoppedBetween}
use Rattle.mz_gen.specs.declared.fault.GenFault.{GenFault}
use Rattle.mz_gen.specs.declared.fault.GenFault.TheVariants.{Shelf, NoMemory}

-- all were written; or a write failed and the faults rose, under the name of its file, with the earlier ones whole;
-- or memory ended the writing between two files
abbrev pub Made : {X : Type 0} → List Act → State → State → Result X GenFault → Type 0
Made acts old new (Ok x) = DidAll acts old new
Made acts old new (Err (Shelf name)) = StoppedAt acts name old new
Made acts old new (Err NoMemory) = StoppedBetween acts old new
