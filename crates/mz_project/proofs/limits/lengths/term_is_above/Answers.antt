use Rattle.mz_project.proofs.LengthLemmas.{term-above}
use Rattle.mz_project.proofs.limits.lengths.term_is_above.Goals as goal

pub returns : goal.returns
returns c = rw (c.from.ensures, c.from-2.ensures) (term-above _)
