use Rattle.std.proofs.Common.{arith, ap}
use Rattle.mz_draw.proofs.DrawLemmas.{draw_at-drawn}
use Rattle.mz_draw.specs.Words.{SeatWords}
use Rattle.mz_draw.proofs.drawer.Drawer.next.Goals as goal

pub returns-clause-drawn : goal.returns-clause-drawn
returns-clause-drawn c = λ k at. draw_at-drawn _ _ _ _ _ _ _ _ _ _ k c.word.ensures.taken c.word-2.ensures.taken c.word.ensures.word c.word-2.ensures.word c.word-word.ensures.word c.pick_place-place.ensures.value (rw c.from.ensures at c.pick.ensures.value) _ (omega (arith, ap (λ (s : SeatWords). s.taken) c.self.view_is)) at
