use Rattle.std.proofs.Common.{[], ◌∷◌, ◌++◌, ap, ◌∙◌, Some}
use Rattle.mz_turn.proofs.OpeningLemmas.{opens_at}
use Rattle.mz_turn.proofs.lock.TurnLock.open.Goals as goal

pub new-requires : goal.new-requires
new-requires g c = opens_at g.T.Story.entries g.T.Story.owner g.T.Story.setting c.of.result.value c.args.value c.length-length.result c.args.seats c.push_reserved.new.self.items c.of.ensures c.length-length.ensures
    (c.push_reserved.ensures.items ∙ ap (λ l. l ++ Some c.args.value ∷ []) c.in_ok-slots.ensures.items) c.requires.few
