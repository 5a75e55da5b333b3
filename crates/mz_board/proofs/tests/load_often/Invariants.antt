use Rattle.std.proofs.Common.{◌≡◌, None}
use Rattle.mz_board.proofs.tests.load_often.Given as goal

abbrev pub invariant-loop : goal.invariant-loop
invariant-loop l = (l.chair.lock ≡ l.initial.chair.lock) × (l.chair.taken ≡ None)
    × (l.chair.number ≡ l.initial.chair.number)
