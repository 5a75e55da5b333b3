use Rattle.std.proofs.Common.{ap, sym, ◌∙◌, arith}
use Rattle.mz_board.proofs.NoteLemmas.{copies}
use Rattle.mz_board.proofs.board.Board.split.Goals as goal

pub split_seat-requires : goal.split_seat-requires
split_seat-requires g c = let e = ap (λ x. x.lock) c.chair.view_is ∙ (c.requires.lock ∙ sym c.self.view_is) in (
  ap (λ x. x.table) e,
  omega (arith, c.self.invariant.0),
  copies g.T.Story _ _ _ (ap (λ x. x.taken) c.chair.view_is ∙ c.requires.idle),
)
