use Rattle.mz_shelf.proofs.PerformedLemmas.{stopped_one}
use Rattle.mz_shelf.proofs.act.say.Goals as goal

pub returns-in-Err-Failed : goal.returns-in-Err-Failed
returns-in-Err-Failed g c = stopped_one _ _ c.in_ok-name.ensures (rw c.in-Err-Failed.field-0-is at c.in-Err-Failed.ensures)
