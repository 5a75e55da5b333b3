use Rattle.std.proofs.Common.{take}
use Rattle.mz_history.specs.Rules.{setting_with}
use Rattle.mz_history.proofs.ReplayLemmas.{Plays}
use Rattle.mz_history.proofs.replaying.replay.Given as goal

abbrev pub invariant-loop-seat : goal.invariant-loop-seat
invariant-loop-seat l = Plays (setting_with l.problem l.rules l.seed l.run) (take l.seat-index l.turns) l.entries.items l.plan l.score l.drawers.items
