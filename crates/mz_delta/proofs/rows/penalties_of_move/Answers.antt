use Rattle.std.proofs.Common.{ap, arith}
use Rattle.mz_model.specs.Scores.{penalty_term_of}
use Rattle.mz_delta.proofs.rows.penalties_of_move.Goals as goal

pub returns-then-old-new-clause-change : goal.returns-then-old-new-clause-change
returns-then-old-new-clause-change c = omega (arith, ap (penalty_term_of c.args.problem.now c.args.row) c.if-old-new.true)
