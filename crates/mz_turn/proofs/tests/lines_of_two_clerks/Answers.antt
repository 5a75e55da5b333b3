use Rattle.std.proofs.Common.{sym, ◌∙◌, subst}
use Rattle.mz_turn.specs.Chair.{AreAllOf}
use Rattle.mz_turn.proofs.FreshLemmas.{both_back}
use Rattle.mz_turn.proofs.tests.lines_of_two_clerks.Goals as goal

pub close_over-requires-after_bounds : goal.close_over-requires-after_bounds
close_over-requires-after_bounds g c κs = let two = c.in-Some.ensures in let wrote = c.write_line.ensures in
    subst (AreAllOf c.in_ok-lock.lock) (sym c.in_ok-clerks.ensures)
    (both_back _ _ _ c.in_ok-lock.ensures.lock.0 (two.0, two.1, two.2) (wrote.0 ∙ two.3, wrote.1, wrote.2 ∙ two.5))
