use Rattle.std.proofs.Common.{◌*◌, arith}
use Rattle.mz_model.proofs.Products.{half_up}
use Rattle.mz_model.proofs.product.by_millionths.Goals as goal

pub overflow_cast-result-in_default-2 : goal.overflow_cast-result-in_default-2
overflow_cast-result-in_default-2 c = omega (arith, half_up (c.args.amount * c.args.millionths), c.requires)

pub returns-in-Some : goal.returns-in-Some
returns-in-Some c = rw c.in-Some.ensures.1 (half_up (c.args.amount * c.args.millionths))

pub returns-in_default : goal.returns-in_default
returns-in_default c = half_up (c.args.amount * c.args.millionths)
