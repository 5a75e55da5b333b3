use Rattle.mz_store.proofs.PassLaws.{few-draws}
use Rattle.mz_store.proofs.pass.Pass.number.Goals as goal

pub returns-clause-few : goal.returns-clause-few
returns-clause-few c = few-draws c.self.inside.chair c.self.inside.seat c.self.inside.number c.self.inside.reached _ _ c.args.self.now c.self.view_is c.self.invariant
