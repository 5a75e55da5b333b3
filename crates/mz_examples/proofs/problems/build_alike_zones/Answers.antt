use Rattle.std.proofs.Common.{subst, sym}
use Rattle.mz_model.specs.Valid.{IsValid}
use Rattle.mz_examples.proofs.ExampleLaws.{alike_zones-valid}
use Rattle.mz_examples.proofs.problems.build_alike_zones.Goals as goal

pub build-requires : goal.build-requires
build-requires c = subst IsValid (sym c.in_ok-parts.ensures) alike_zones-valid
