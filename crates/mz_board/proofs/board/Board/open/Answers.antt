use Rattle.std.proofs.Common.{[], ◌∷◌, ◌++◌, ap, sym, ◌∙◌, Some}
use Rattle.mz_board.proofs.OpeningLemmas.{opens_at}
use Rattle.mz_board.proofs.board.Board.open.Goals as goal

pub new-requires : goal.new-requires
new-requires g c = let all = c.deref.result.now in let noted = c.of-2.result.value in
    opens_at g.T.Story c.of.result.value c.args.value noted.items all c.args.words.now c.args.seats
    c.push_reserved.new.self.items c.of.ensures (ap (λ v. v.items) c.of-2.ensures
    ∙ sym c.deref.ensures.value) (c.deref.ensures.value ∙ c.in_ok-all.ensures)
    (c.push_reserved.ensures.items
    ∙ ap (λ l. l ++ Some c.args.value ∷ []) c.in_ok-slots.ensures.items) c.requires.few c.requires.empty
    c.requires.may
