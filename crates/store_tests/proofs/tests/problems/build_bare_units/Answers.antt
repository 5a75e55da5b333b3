use Rattle.std.proofs.Common.{◌∙◌, ap, subst, sym}
use Rattle.mz_model.specs.Valid.{IsValid}
use Rattle.store_tests.specs.Bare.{without_features}
use Rattle.store_tests.proofs.BareLaws.{bare-valid}
use Rattle.store_tests.proofs.tests.problems.build_bare_units.Goals as goal

pub build-requires : goal.build-requires
build-requires c = subst IsValid (sym (c.drop_features-bare.ensures ∙ ap without_features c.in_ok-parts.ensures)) bare-valid
