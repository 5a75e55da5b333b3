use Rattle.std.proofs.Common.{◌≡◌, take}
use Rattle.mz_model.specs.Built.{touching}
use Rattle.mz_model.specs.Groups.{filled}
use Rattle.mz_model.proofs.build.add_touches.Given as goal

abbrev pub invariant-loop-unit : goal.invariant-loop-unit
invariant-loop-unit l = l.lists ≡ record l.fn.lists { lists = filled l.fn.lists.lists (touching l.row l.part (take l.unit-index l.holders)) }
