use Rattle.mz_model.proofs.ZoneRank.{ones_masked}
use Rattle.mz_model.proofs.problem.place_of.Goals as goal

pub returns : goal.returns
returns c = ones_masked c.args.set c.args.zone c.requires
