use Rattle.std.proofs.Common.{arith}
use Rattle.mz_model.proofs.problem.Problem.touched.Goals as goal

pub overflow_cast-result : goal.overflow_cast-result
overflow_cast-result c = omega (arith, c.touches.ensures.small, c.touches.ensures.valid.small.rows)
