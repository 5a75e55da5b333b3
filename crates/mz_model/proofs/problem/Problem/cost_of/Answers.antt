use Rattle.std.proofs.Common.{subst}
use Rattle.mz_model.specs.Valid.{IsValid}
use Rattle.mz_model.proofs.LimitLaws.{cost_at-le}
use Rattle.mz_model.proofs.problem.Problem.cost_of.Goals as goal

pub returns-clause-small : goal.returns-clause-small
returns-clause-small c = rw (c.as_slice.ensures, c.len.ensures, c.self.view_is) (cost_at-le c.args.self.now c.args.unit c.args.zone (subst IsValid c.self.view_is c.self.invariant.valid) c.requires.unit c.requires.zone)
