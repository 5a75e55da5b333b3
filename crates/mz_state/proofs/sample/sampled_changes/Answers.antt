use Rattle.std.proofs.Common.{rules}
use Rattle.mz_state.proofs.SampleLaws.{sample-fixed, sample-free}
use Rattle.mz_state.proofs.sample.sampled_changes.Goals as goal

pub returns-then-not-has_free-clause-changes : goal.returns-then-not-has_free-clause-changes
returns-then-not-has_free-clause-changes c = sample-fixed c.args.problem.now c.args.prop c.args.seed c.args.run _ _ c.has_free.ensures c.if-not-has_free.true (search rules)

pub returns-clause-changes : goal.returns-clause-changes
returns-clause-changes c = sample-free c.args.problem.now c.args.prop c.args.seed c.args.run _ _ _ c.has_free.ensures c.if-not-has_free.false c.in_ok-plan.ensures.plan c.in_ok-changes.ensures.changes
