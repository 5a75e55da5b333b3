use Rattle.std.proofs.Common.{ap, sym, ◌∙◌, ◌<◌, length, subst, arith}
use Rattle.mz_board.proofs.LookLemmas.{loads}
use Rattle.mz_board.proofs.board.Board.load_item.Goals as goal

pub load-requires : goal.load-requires
load-requires g c = let e = ap (λ x. x.lock) c.chair.view_is ∙ (c.requires.lock ∙ sym c.self.view_is) in
    let slots = c.self.inside.table.shared.table_id.slots in
    let low = subst (λ o. c.args.item < length o) (ap (λ x. x.opening) (c.requires.lock
    ∙ sym c.self.view_is)) c.requires.item in (
      ap (λ x. x.table) e,
      omega (arith, c.self.invariant.0),
      loads g.T.Story _ slots _ c.chair.inside.seat.me c.args.item low,
    )
