use Rattle.std.proofs.Common.{arith}
use Rattle.mz_sums.proofs.BestLemmas.{best_of_all}
use Rattle.mz_sums.proofs.best.best_of.Goals as goal

pub returns-clause-place : goal.returns-clause-place
returns-clause-place c = best_of_all c.args.scores.now c.loop-place.place c.loop-place.best (omega (arith, c.loop-place.auto.place-end, c.loop-place-test.false)) c.loop-place.invariant
