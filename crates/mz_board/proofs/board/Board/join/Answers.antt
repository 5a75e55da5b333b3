use Rattle.std.proofs.Common.{◌≡◌, ap, sym, ◌∙◌, subst, arith}
use Rattle.mz_board.specs.Chair.{joined}
use Rattle.mz_board.specs.Places.{chair_of}
use Rattle.mz_board.proofs.NoteLemmas.{joins, joined_state, joined_ok}
use Rattle.mz_board.proofs.board.Board.join.Goals as goal

pub join_seat-requires : goal.join_seat-requires
join_seat-requires g c = let e = ap (λ x. x.lock) c.chair.view_is ∙ (c.requires.lock ∙ sym c.self.view_is) in
    let f = ap (λ x. x.lock) c.note.view_is ∙ (c.requires.note ∙ sym c.self.view_is) in (
      ap (λ x. x.table) e,
      ap (λ x. x.table) f,
      c.note.invariant.slot,
      omega (arith, c.self.invariant.0),
      joins g.T.Story _ _ _ _ _ (ap (λ x. x.taken) c.chair.view_is ∙ c.requires.idle) c.note.invariant.taken,
    )

pub returns : goal.returns
returns g c = let seat = c.chair.inside.seat in let new = c.join_seat.new.seat in let t = c.join_seat.ensures in
    let n = c.note.inside.seat in
    subst (λ ch. chair_of new.table_id new.me.0 ≡ joined ch c.args.note) c.chair.view_is
    (subst (λ nt. chair_of new.table_id new.me.0 ≡ joined (chair_of seat.table_id seat.me.0) nt) c.note.view_is
    (ap (λ id. chair_of id new.me.0) t.0 ∙ (ap (λ m. chair_of seat.table_id m.0) t.2
    ∙ joined_state seat.table_id n.table_id seat.me.0 n.me.0 c.note.invariant.kept c.note.invariant.told)))

pub invariant_of-chair : goal.invariant_of-chair
invariant_of-chair g c = joined_ok c.chair.inside.number c.chair.inside.front c.chair.inside.seat.me
    c.join_seat.new.seat.me c.note.inside.seat.me c.chair.invariant (ap (λ x. x.taken) c.chair.view_is
    ∙ c.requires.idle) c.note.invariant c.join_seat.ensures.2
