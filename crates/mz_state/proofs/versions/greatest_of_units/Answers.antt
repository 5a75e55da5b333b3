use Rattle.std.proofs.Common.{◌∙◌}
use Rattle.std.specs.Prelude.{slice_index}
use Rattle.mz_state.proofs.ReachLaws.{greatest_by-next}
use Rattle.mz_state.proofs.versions.greatest_of_units.Goals as goal

pub loop-neighbour-preserved : goal.loop-neighbour-preserved
loop-neighbour-preserved c = c.greater-greatest.ensures ∙ greatest_by-next (λ neighbour. slice_index c.args.versions.now neighbour.unit) _ c.loop-neighbour.neighbour-index _ _ c.loop-neighbour-test.true c.loop-neighbour.invariant
