use Rattle.std.proofs.Common.{sym}
use Rattle.mz_turn.proofs.FreshLemmas.{all_fresh}
use Rattle.mz_turn.proofs.tests.length_through_a_lock.Goals as goal

pub close-requires : goal.close-requires
close-requires g c = (c.type_bounds.send-T, all_fresh _ _ _ c.in_ok-lock.ensures.chairs (sym c.in_ok-lock.ensures.lock.0))
