use Rattle.std.proofs.Common.{rules, ◌∙◌}
use Rattle.std.specs.Int.{w128}
use Rattle.std.proofs.lemmas.Int.{to_z-of_z}
use Rattle.mz_state.proofs.SumLaws.{changes-are, scored, small-sums}
use Rattle.mz_state.proofs.sums.changed_score.Goals as goal

pub changed-requires-clause-sum : goal.changed-requires-clause-sum
changed-requires-clause-sum c = (small-sums c.args.problem.now c.args.plan.now c.args.score.now c.requires.valid c.requires.moves.legal c.requires.score).0

pub changed-requires-clause-change : goal.changed-requires-clause-change
changed-requires-clause-change c = rw (to_z-of_z w128 c.args.judged.now.cost (search rules)) ((changes-are c.args.problem.now c.args.plan.now c.args.score.now c.args.judged.now c.requires.valid c.requires.moves c.requires.score).cost)

pub changed-requires-2-clause-sum : goal.changed-requires-2-clause-sum
changed-requires-2-clause-sum c = (small-sums c.args.problem.now c.args.plan.now c.args.score.now c.requires.valid c.requires.moves.legal c.requires.score).1

pub changed-requires-2-clause-change : goal.changed-requires-2-clause-change
changed-requires-2-clause-change c = rw (to_z-of_z w128 c.args.judged.now.boundary (search rules)) ((changes-are c.args.problem.now c.args.plan.now c.args.score.now c.args.judged.now c.requires.valid c.requires.moves c.requires.score).boundary)

pub changed-requires-3-clause-sum : goal.changed-requires-3-clause-sum
changed-requires-3-clause-sum c = (small-sums c.args.problem.now c.args.plan.now c.args.score.now c.requires.valid c.requires.moves.legal c.requires.score).2

pub changed-requires-3-clause-change : goal.changed-requires-3-clause-change
changed-requires-3-clause-change c = rw (to_z-of_z w128 c.args.judged.now.penalty (search rules)) ((changes-are c.args.problem.now c.args.plan.now c.args.score.now c.args.judged.now c.requires.valid c.requires.moves c.requires.score).penalty)

pub changed-requires-4-clause-sum : goal.changed-requires-4-clause-sum
changed-requires-4-clause-sum c = (small-sums c.args.problem.now c.args.plan.now c.args.score.now c.requires.valid c.requires.moves.legal c.requires.score).3

pub changed-requires-4-clause-change : goal.changed-requires-4-clause-change
changed-requires-4-clause-change c = rw (to_z-of_z w128 c.args.judged.now.change (search rules)) ((changes-are c.args.problem.now c.args.plan.now c.args.score.now c.args.judged.now c.requires.valid c.requires.moves c.requires.score).total)

pub returns : goal.returns
returns c = scored c.args.problem.now c.args.plan.now c.args.score.now c.args.judged.now _ _ _ _ c.requires.moves c.requires.score
    (λ after h. c.changed.ensures after (to_z-of_z w128 c.args.judged.now.cost (search rules) ∙ h)) (λ after h. c.changed-2.ensures after (to_z-of_z w128 c.args.judged.now.boundary (search rules) ∙ h))
    (λ after h. c.changed-3.ensures after (to_z-of_z w128 c.args.judged.now.penalty (search rules) ∙ h)) (λ after h. c.changed-4.ensures after (to_z-of_z w128 c.args.judged.now.change (search rules) ∙ h))
