use Rattle.std.proofs.Common.{subst, sym}
use Rattle.mz_model.specs.Valid.{IsValid}
use Rattle.mz_examples.proofs.ExampleLaws.{unheld_features-valid}
use Rattle.mz_examples.proofs.problems.build_unheld_features.Goals as goal

pub build-requires : goal.build-requires
build-requires c = subst IsValid (sym c.in_ok-parts.ensures) unheld_features-valid
