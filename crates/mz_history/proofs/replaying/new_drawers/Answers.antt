use Rattle.std.proofs.Common.{[], refl}
use Rattle.mz_num.proofs.PlaceLaws.{list_below-more}
use Rattle.mz_history.specs.SeatWords.{words_after}
use Rattle.mz_history.proofs.replaying.new_drawers.Goals as goal

pub loop-seat-preserved : goal.loop-seat-preserved
loop-seat-preserved c = rw (list_below-more c.loop-seat.seat (words_after c.args.seed c.args.run []), c.in_ok-push.ensures.items, c.new.ensures, c.loop-seat.invariant) refl
