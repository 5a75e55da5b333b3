use Rattle.mz_run.proofs.EndingLemmas.{says_line}
use Rattle.mz_run.proofs.refusal.say_refusal.Goals as goal

pub returns-in-Ok : goal.returns-in-Ok
returns-in-Ok g c = says_line _ c.say.result (rw (c.deref.ensures.value, c.in-Ok.ensures) at c.say.ensures)
