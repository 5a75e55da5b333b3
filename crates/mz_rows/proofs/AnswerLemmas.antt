-- Faults of a definition, from one step of it to the next.
use Rattle.std.proofs.Common.{◌≡◌, Result, Err}
use Rattle.mz_tables.specs.declared.fault.RowFault.{RowFault}
use Rattle.mz_tables.specs.declared.fault.RowFault.TheVariants.{TooMany, BadNumber, LeftOut, Unknown, Repeated, LockConflict, NoMemory}
use Rattle.mz_rows.specs.Answer.{IsFaultOf}

-- a fault that the definition has
pub fault-is : {X : Type 0} (fault : RowFault) (made : Result X RowFault) → made ≡ Err fault → IsFaultOf fault made
fault-is (TooMany line) made e = e
fault-is (BadNumber line column why) made e = e
fault-is (LeftOut line column) made e = e
fault-is (Unknown line column) made e = e
fault-is (Repeated line) made e = e
fault-is (LockConflict line id) made e = e
fault-is NoMemory made e = tt

-- a fault of a part that stops the whole
pub fault-on : {X Y : Type 0} (fault : RowFault) (part : Result X RowFault) (whole : Result Y RowFault) → IsFaultOf fault part → ((f : RowFault) → part ≡ Err f → whole ≡ Err f) → IsFaultOf fault whole
fault-on (TooMany line) part whole e stops = stops (TooMany line) e
fault-on (BadNumber line column why) part whole e stops = stops (BadNumber line column why) e
fault-on (LeftOut line column) part whole e stops = stops (LeftOut line column) e
fault-on (Unknown line column) part whole e stops = stops (Unknown line column) e
fault-on (Repeated line) part whole e stops = stops (Repeated line) e
fault-on (LockConflict line id) part whole e stops = stops (LockConflict line id) e
fault-on NoMemory part whole e stops = tt
