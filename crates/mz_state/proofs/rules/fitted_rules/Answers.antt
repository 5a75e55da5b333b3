use Rattle.mz_state.proofs.SampleLaws.{some-sample}
use Rattle.mz_state.proofs.rules.fitted_rules.Goals as goal

pub adaptive-requires-clause-some_change : goal.adaptive-requires-clause-some_change
adaptive-requires-clause-some_change c = some-sample c.args.problem.now c.args.params.now.prop c.args.seed c.args.run _ _ c.as_slice.ensures.value c.in_ok-changes.ensures.changes
