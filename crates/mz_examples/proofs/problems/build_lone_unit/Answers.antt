use Rattle.std.proofs.Common.{subst, sym}
use Rattle.mz_model.specs.Valid.{IsValid}
use Rattle.mz_examples.proofs.ExampleLaws.{lone_unit-valid}
use Rattle.mz_examples.proofs.problems.build_lone_unit.Goals as goal

pub build-requires : goal.build-requires
build-requires c = subst IsValid (sym c.in_ok-parts.ensures) lone_unit-valid
