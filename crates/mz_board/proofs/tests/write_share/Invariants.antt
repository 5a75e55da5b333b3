use Rattle.std.proofs.Common.{◌≡◌, None}
use Rattle.mz_board.proofs.tests.write_share.Given as goal

abbrev pub invariant-loop-number : goal.invariant-loop-number
invariant-loop-number g l = (l.chair.lock ≡ l.initial.chair.lock) × (l.chair.taken ≡ None)
    × (l.chair.number ≡ l.initial.chair.number)
