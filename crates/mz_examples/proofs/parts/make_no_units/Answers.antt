use Rattle.std.proofs.Common.{◌∙◌}
use Rattle.mz_examples.specs.Examples.{no_units}
use Rattle.mz_examples.proofs.ExampleLaws.{same_parts}
use Rattle.mz_examples.proofs.parts.make_no_units.Goals as goal

pub returns : goal.returns
unfolding no_units
returns c = same_parts no_units _ _ _ _ _ _ _ _ _ _ _ _ c.in_ok-unit_ids.ensures c.in_ok-zone_ids.ensures c.in_ok-feature_ids.ensures (c.new-names.ensures ∙ c.new.ensures.items) c.in_ok-allowed.ensures c.in_ok-costs.ensures c.in_ok-rates.ensures c.in_ok-edges.ensures c.in_ok-outer.ensures c.in_ok-targets.ensures c.in_ok-amounts.ensures c.in_ok-fractions.ensures
