use Rattle.mz_model.proofs.BuildLaws.{AreHolders}
use Rattle.mz_model.proofs.holders.holders_by_feature.Given as goal

abbrev pub invariant-loop-unit : goal.invariant-loop-unit
invariant-loop-unit l = AreHolders l.features l.amounts l.unit-index l.lists
