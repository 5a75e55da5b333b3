-- The three units without their feature are a problem.
use Rattle.std.proofs.Common.{refl}
use Rattle.mz_num.specs.Round.{round}
use Rattle.mz_examples.proofs.Checked.{valid_from}
use Rattle.mz_examples.specs.Examples.{three_units}
use Rattle.mz_model.specs.Amounts.{holders_of, total_of}
use Rattle.mz_model.specs.Boundary.{greatest_rate}
use Rattle.mz_model.specs.Targets.{amount_for, gain_from, gain_of}
use Rattle.mz_model.specs.Valid.{IsValid}
use Rattle.store_tests.specs.Bare.{without_features}

pub bare-valid : IsValid (without_features three_units)
unfolding three_units total_of holders_of greatest_rate gain_of gain_from amount_for round
bare-valid = valid_from (without_features three_units) refl refl refl
