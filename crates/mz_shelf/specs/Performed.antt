-- What comes of a chain of acts.
use Rattle.std.specs.Prelude.{List, Result, Ok, Err}
use Rattle.mz_shelf.specs.State.{State}
use Rattle.mz_shelf.specs.Act.{Act}
use Rattle.mz_shelf.specs.Chain.{DidAll, StoppedAt, StoppedBetween}
use Rattle.mz_shelf.specs.declared.stop.Stop.{Stop}
use Rattle.mz_shelf.specs.declared.stop.Stop.TheVariants.{Fault, NoMemory}

-- one act failed, and no other was tried behind it; or memory ended the chain between two acts
abbrev pub Stopped : List Act → State → State → Stop → Type 0
Stopped acts old new (Fault name) = StoppedAt acts name old new
Stopped acts old new NoMemory = StoppedBetween acts old new

-- all acts were done, or the chain stopped
abbrev pub Performed : {X : Type 0} → List Act → State → State → Result X Stop → Type 0
Performed acts old new (Ok x) = DidAll acts old new
Performed acts old new (Err stop) = Stopped acts old new stop
