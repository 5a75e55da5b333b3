use Rattle.std.proofs.Common.{arith}
use Rattle.mz_delta.proofs.AroundLaws.{edge_term-same}
use Rattle.mz_delta.proofs.boundary.terms_of_move.Goals as goal

pub returns-then-rate-clause-change : goal.returns-then-rate-clause-change
returns-then-rate-clause-change c =
    omega (arith, edge_term-same c.args.problem.now c.args.len c.args.old c.args.new c.args.other c.rate.result c.rate-2.result c.rate.ensures.rate c.rate-2.ensures.rate c.if-rate.true)
