use Rattle.mz_turn.proofs.WaitLemmas.{Waits}
use Rattle.mz_turn.proofs.lock.TurnLock.take.Given as goal

abbrev pub invariant-loop : goal.invariant-loop
invariant-loop g l = Waits l.initial.chair l.chair
