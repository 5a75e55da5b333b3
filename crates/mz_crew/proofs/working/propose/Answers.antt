use Rattle.mz_crew.proofs.WorkLaws.{proposed}
use Rattle.mz_crew.proofs.working.propose.Goals as goal

pub returns-clause-proposes : goal.returns-clause-proposes
returns-clause-proposes g c = proposed c.args.store.now.run c.args.pass.now _ _ c.args.draw.unit _ _ c.look.ensures.looks c.commit.ensures
