use Rattle.mz_history.proofs.OvertakenLaws.{commit-overtaken}
use Rattle.mz_history.proofs.world.World.step.Goals as goal

pub returns-in-Commit-clause-overtaken : goal.returns-in-Commit-clause-overtaken
returns-in-Commit-clause-overtaken c = λ seat position asked answered. commit-overtaken _ _ seat _ position _ _ _ c.in-Commit.is asked c.commit.ensures.reply answered
