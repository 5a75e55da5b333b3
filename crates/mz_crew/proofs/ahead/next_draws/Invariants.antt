use Rattle.mz_crew.proofs.AheadLaws.{DrawnBelow}
use Rattle.mz_crew.proofs.ahead.next_draws.Given as goal

abbrev pub invariant-loop-place : goal.invariant-loop-place
invariant-loop-place l = DrawnBelow l.store.run l.pass l.place l.draws l.drawer
