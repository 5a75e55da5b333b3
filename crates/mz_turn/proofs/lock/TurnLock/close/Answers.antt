use Rattle.std.proofs.Common.{sym, subst}
use Rattle.std.specs.List.{All}
use Rattle.std.proofs.lemmas.List.{map-id}
use Rattle.mz_turn.specs.Chair.{AreAllOf, Learns}
use Rattle.mz_turn.proofs.lock.TurnLock.close.Goals as goal

pub close_over-requires : goal.close_over-requires
close_over-requires g c = (c.type_bounds.send-T, subst (AreAllOf c.args.self) (sym (map-id c.args.chairs.items)) c.requires)

pub returns-clause-lists : goal.returns-clause-lists
returns-clause-lists g c = subst (All (λ chair. Learns g.T.Story.owner chair (g.T.Story.entries c.close_over.result))) (map-id c.args.chairs.items) c.close_over.ensures.lists
