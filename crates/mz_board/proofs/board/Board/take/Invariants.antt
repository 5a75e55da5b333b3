use Rattle.mz_board.proofs.WaitLemmas.{Waits}
use Rattle.mz_board.proofs.board.Board.take.Given as goal

abbrev pub invariant-loop : goal.invariant-loop
invariant-loop g l = Waits l.initial.chair l.chair
