use Rattle.std.proofs.Common.{sym, ◌∙◌, arith}
use Rattle.mz_turn.proofs.FreshLemmas.{fresh_idle, all_back}
use Rattle.mz_turn.proofs.tests.written_by_eight.Goals as goal

pub write_all-requires-after_bounds : goal.write_all-requires-after_bounds
write_all-requires-after_bounds g c κs within = fresh_idle _ _ _ c.in_ok-lock.ensures.chairs

pub close-requires-after_bounds : goal.close-requires-after_bounds
close-requires-after_bounds g c κs = let v = c.in_ok-lock.chairs in let w = c.in_ok-chairs.chairs in let e = c.in_ok-chairs.ensures in
    all_back _ _ _ c.in_ok-lock.ensures.chairs w.items (sym c.in_ok-lock.ensures.lock.0) (sym w.ok.0 ∙ (e.len ∙ v.ok.0)) (λ k d lt. e.each k d (omega (arith, v.ok.0)))
