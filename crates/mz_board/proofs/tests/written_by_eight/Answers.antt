use Rattle.mz_board.proofs.FreshLemmas.{fresh_idle}
use Rattle.mz_board.proofs.tests.written_by_eight.Goals as goal

pub use_all-requires-clause-chairs : goal.use_all-requires-clause-chairs
use_all-requires-clause-chairs g c κs within = fresh_idle _ _ _ c.in_ok-board.ensures.chairs
