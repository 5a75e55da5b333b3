use Rattle.std.proofs.Common.{ap, ◌∙◌}
use Rattle.mz_board.proofs.WaitLemmas.{waits_none, waits_more, took_turn, takes_after}
use Rattle.mz_board.proofs.board.Board.take.Goals as goal

pub loop-init : goal.loop-init
loop-init g c = waits_none _

pub try_take-requires-clause-lock : goal.try_take-requires-clause-lock
try_take-requires-clause-lock g c κs within = ap (λ x. x.lock) c.loop.invariant.now ∙ c.requires.lock

pub try_take-requires-clause-idle : goal.try_take-requires-clause-idle
try_take-requires-clause-idle g c κs within = ap (λ x. x.taken) c.loop.invariant.now ∙ c.requires.idle

pub returns-in-Ok-clause-takes : goal.returns-in-Ok-clause-takes
returns-in-Ok-clause-takes g c = takes_after g.T.Story _ _ _ c.loop.invariant c.in-Ok.ensures.0

pub returns-in-Ok-clause-now : goal.returns-in-Ok-clause-now
returns-in-Ok-clause-now g c = took_turn _ _ _ _ c.loop.invariant c.in-Ok.ensures.1

pub loop-preserved : goal.loop-preserved
loop-preserved g c = waits_more _ _ _ _ c.loop.invariant c.in-Err.ensures
