use Rattle.std.proofs.Common.{◌≡◌, ℕ, ℤ, [], ◌∷◌, ◌++◌, ap, arith, rules, ◌∙◌}
use Rattle.std.specs.Int.{w128}
use Rattle.std.proofs.lemmas.Int.{to_z-of_z}
use Rattle.mz_num.specs.Places.{list_below}
use Rattle.mz_state.proofs.SampleLaws.{sample_at, sampled-early, sampled-more, sampled-whole}
use Rattle.mz_state.proofs.sample.changes_of.Goals as goal

pub next_change-change-requires-clause-whole : goal.next_change-change-requires-clause-whole
next_change-change-requires-clause-whole c = sampled-whole _ _ _ _ c.loop.counter _ _ _ _ c.loop.invariant

pub next_change-change-requires-clause-early : goal.next_change-change-requires-clause-early
next_change-change-requires-clause-early c = sampled-early _ _ _ _ c.loop.counter _ _ _ _ c.loop.invariant (omega (arith, c.loop-test.true))

pub loop-preserved : goal.loop-preserved
loop-preserved c = sampled-more _ _ _ _ c.loop.counter _ _ _ _ _ _ _ _ c.next_change-change.result c.loop.invariant c.next_change-change.ensures.change c.next_change-change.ensures.size c.next_change-change.ensures.taken
    c.next_change-change.ensures.reading c.next_change-change.ensures.judged (c.in_ok-push.ensures.items ∙ ap (λ (d : ℤ). c.loop.changes.items ++ d ∷ []) (to_z-of_z w128 c.next_change-change.result (search rules)))

pub returns-clause-changes : goal.returns-clause-changes
returns-clause-changes c = let all : c.loop.counter ≡ 1000 = omega (arith, c.loop-test.false, c.loop.auto.counter-end) in
    c.loop.invariant.changes_are ∙ ap (λ (n : ℕ). list_below n (sample_at c.args.problem.now c.args.plan.now c.args.seed c.args.run)) all
