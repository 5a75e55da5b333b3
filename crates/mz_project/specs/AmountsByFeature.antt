-- The amounts of all features, and those of each.
use Rattle.std.specs.Prelude.{length}
use Rattle.mz_model.specs.Amounts.{holders_of, total_of}
use Rattle.mz_num.specs.Places.{list_below}
use Rattle.mz_project.specs.declared.limits.amounts.AmountsByFeature.{AmountsByFeature}
use Rattle.mz_project.specs.declared.targets.Targets.{Targets}

abbrev pub amounts_by_feature : Targets → AmountsByFeature
amounts_by_feature targets = record {
  amounts = targets.amounts;
  holders = list_below (length targets.features.ids) (holders_of targets.amounts);
  totals = list_below (length targets.features.ids) (total_of targets.amounts);
}
