use Rattle.std.proofs.Common.{subst}
use Rattle.mz_history.specs.History.{IsSound}
use Rattle.mz_history.proofs.LegalHistoryLaws.{sound}
use Rattle.mz_history.proofs.world.World.journal.Goals as goal

pub returns-clause-sound : goal.returns-clause-sound
returns-clause-sound c = subst IsSound c.self.view_is (sound _ _ _ _ c.self.invariant)
