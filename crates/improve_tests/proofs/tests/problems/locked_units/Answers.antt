use Rattle.std.proofs.Common.{◌∙◌}
use Rattle.improve_tests.proofs.Worked.{locked-valid}
use Rattle.improve_tests.proofs.tests.problems.locked_units.Goals as goal

pub build-requires : goal.build-requires
build-requires c = locked-valid c.in_ok-parts.parts c.new.result c.in_ok-parts.ensures (c.new.ensures ∙ c.in_ok-from_slice.ensures.items)
