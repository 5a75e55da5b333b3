use Rattle.std.proofs.Common.{◌∙◌}
use Rattle.std.specs.Prelude.{slice_index}
use Rattle.mz_state.proofs.ReachLaws.{greatest_by-next}
use Rattle.mz_state.proofs.versions.greatest_of_rows.Goals as goal

pub loop-touch-preserved : goal.loop-touch-preserved
loop-touch-preserved c = c.greater-greatest.ensures ∙ greatest_by-next (λ touch. slice_index c.args.versions.now touch.row) _ c.loop-touch.touch-index _ _ c.loop-touch-test.true c.loop-touch.invariant
