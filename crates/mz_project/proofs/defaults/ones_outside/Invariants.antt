use Rattle.std.proofs.Common.{◌≡◌}
use Rattle.mz_project.specs.Defaults.{ones_outside}
use Rattle.mz_project.proofs.defaults.ones_outside.Given as goal

abbrev pub invariant-loop-zone : goal.invariant-loop-zone
invariant-loop-zone l = l.ones.items ≡ ones_outside l.zone l.things l.available
