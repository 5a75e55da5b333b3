use Rattle.mz_examples.specs.Examples.{alike_zones}
use Rattle.mz_examples.proofs.ExampleLaws.{same_parts}
use Rattle.mz_examples.proofs.parts.make_alike_zones.Goals as goal

pub returns : goal.returns
unfolding alike_zones
returns c = same_parts alike_zones _ _ _ _ _ _ _ _ _ _ _ _ c.in_ok-unit_ids.ensures c.in_ok-zone_ids.ensures c.in_ok-feature_ids.ensures c.in_ok-names.ensures c.in_ok-allowed.ensures c.in_ok-costs.ensures c.in_ok-rates.ensures c.in_ok-edges.ensures c.in_ok-outer.ensures c.in_ok-targets.ensures c.in_ok-amounts.ensures c.in_ok-fractions.ensures
