use Rattle.std.proofs.Common.{refl}
use Rattle.mz_shelf.proofs.PerformedLemmas.{stopped_one}
use Rattle.mz_shelf.proofs.act.write.Goals as goal

pub returns-in-Err-Failed : goal.returns-in-Err-Failed
returns-in-Err-Failed g c =
    let part = rw c.in-Err-Failed.field-0-is at c.in-Err-Failed.ensures in
    stopped_one _ _ refl (rw c.as_str.ensures at part)
