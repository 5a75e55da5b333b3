use Rattle.std.proofs.Common.{sym}
use Rattle.mz_board.proofs.FreshLemmas.{all_fresh}
use Rattle.mz_board.proofs.tests.length_through_a_board.Goals as goal

pub close-requires-after_bounds : goal.close-requires-after_bounds
close-requires-after_bounds g c κs within = all_fresh _ _ _ c.in_ok-board.ensures.chairs
    (sym c.in_ok-board.ensures.board.0)
