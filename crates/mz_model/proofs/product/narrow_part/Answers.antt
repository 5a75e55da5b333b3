use Rattle.std.proofs.Common.{◌*◌}
use Rattle.mz_model.proofs.Products.{half_up_of}
use Rattle.mz_model.proofs.product.narrow_part.Goals as goal

pub returns-clause-part : goal.returns-clause-part
returns-clause-part c = half_up_of (c.args.weight * c.args.missing) c.args.level
