use Rattle.std.proofs.Common.{◌≡◌, ◌∷◌, ◌++◌, [], ap, sym, ◌∙◌, subst}
use Rattle.mz_board.specs.Chair.{MayAppend, with_entry}
use Rattle.mz_board.specs.Places.{chair_of}
use Rattle.mz_board.proofs.ChairLemmas.{grown_chair, grown_ok}
use Rattle.mz_board.proofs.board.Board.append.Goals as goal

pub invariant_of-chair : goal.invariant_of-chair
invariant_of-chair g c = let seat = c.chair.inside.seat in let value = c.args.value.now in
    grown_ok g.T.Story seat.table_id c.chair.inside.number c.chair.inside.front seat.me c.chair.invariant value
    (subst (λ ch. MayAppend g.T.Story ch value) (sym c.chair.view_is) c.requires.may)
    c.count_entry.new.seat.me c.count_entry.ensures.view c.length-length.result c.length-length.ensures

pub returns : goal.returns
returns g c entry grew = let seat = c.chair.inside.seat in let value = c.args.value.now in
    let new = c.count_entry.new.seat in let list = g.T.Story.entries value in
    subst (λ ch. chair_of new.table_id new.me.0 ≡ with_entry ch list (g.T.Story.writes entry)) c.chair.view_is
    (ap (λ t. chair_of t new.me.0) c.count_entry.ensures.seat.0
    ∙ grown_chair g.T.Story seat.table_id c.chair.inside.number c.chair.inside.front seat.me c.chair.invariant
    value (subst (λ ch. MayAppend g.T.Story ch value) (sym c.chair.view_is) c.requires.may)
    new.me c.count_entry.ensures.view entry (subst (λ ch. list ≡ ch.seen ++ entry ∷ []) (sym c.chair.view_is) grew))
