use Rattle.std.proofs.Common.{◌∙◌}
use Rattle.mz_model.proofs.FillingLaws.{filling-full}
use Rattle.mz_model.proofs.filling.Filling.full.Goals as goal

pub returns : goal.returns
returns g c = c.cut.ensures ∙ filling-full _ _ _ _ c.self.invariant c.self.view_is c.requires
