use Rattle.std.proofs.Common.{◌≡◌, []}
use Rattle.mz_num.specs.Places.{list_below}
use Rattle.mz_history.specs.SeatWords.{words_after}
use Rattle.mz_history.proofs.replaying.new_drawers.Given as goal

abbrev pub invariant-loop-seat : goal.invariant-loop-seat
invariant-loop-seat l = l.drawers.items ≡ list_below l.seat (words_after l.seed l.run [])
