use Rattle.std.proofs.Common.{arith}
use Rattle.mz_model.proofs.Products.{part-le}
use Rattle.mz_model.proofs.product.wide_part.Goals as goal

pub overflow_cast-result : goal.overflow_cast-result
overflow_cast-result c = omega (arith, c.round_half.ensures, c.requires.weight, part-le c.args.weight c.args.missing c.args.level c.requires.some_level c.requires.part)

pub returns-clause-small : goal.returns-clause-small
returns-clause-small c = omega (arith, c.round_half.ensures, c.requires.weight, part-le c.args.weight c.args.missing c.args.level c.requires.some_level c.requires.part)
