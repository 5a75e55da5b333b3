use Rattle.std.proofs.Common.{rules, ◌∙◌, ap, ℤ, pos, ◌+ℤ◌}
use Rattle.std.specs.Int.{w128}
use Rattle.std.proofs.lemmas.Int.{to_z-of_z}
use Rattle.mz_improve.proofs.ScoreLaws.{all-take, score-moved}
use Rattle.mz_improve.proofs.moves.moved_score.Goals as goal

pub changed-cost-requires-clause-floor : goal.changed-cost-requires-clause-floor
changed-cost-requires-clause-floor c = rw (to_z-of_z w128 c.args.judged.now.cost (search rules)) ((all-take c.args.problem.now c.args.plan.now c.args.score.now c.args.judged.now.unit c.args.judged.now.new c.args.judged.now c.requires.valid c.requires.legal c.requires.score c.requires.unit c.requires.allowed c.requires.difference).cost.floor)

pub changed-cost-requires-clause-ceiling : goal.changed-cost-requires-clause-ceiling
changed-cost-requires-clause-ceiling c = rw (to_z-of_z w128 c.args.judged.now.cost (search rules)) ((all-take c.args.problem.now c.args.plan.now c.args.score.now c.args.judged.now.unit c.args.judged.now.new c.args.judged.now c.requires.valid c.requires.legal c.requires.score c.requires.unit c.requires.allowed c.requires.difference).cost.ceiling)

pub changed-boundary-requires-clause-floor : goal.changed-boundary-requires-clause-floor
changed-boundary-requires-clause-floor c = rw (to_z-of_z w128 c.args.judged.now.boundary (search rules)) ((all-take c.args.problem.now c.args.plan.now c.args.score.now c.args.judged.now.unit c.args.judged.now.new c.args.judged.now c.requires.valid c.requires.legal c.requires.score c.requires.unit c.requires.allowed c.requires.difference).boundary.floor)

pub changed-boundary-requires-clause-ceiling : goal.changed-boundary-requires-clause-ceiling
changed-boundary-requires-clause-ceiling c = rw (to_z-of_z w128 c.args.judged.now.boundary (search rules)) ((all-take c.args.problem.now c.args.plan.now c.args.score.now c.args.judged.now.unit c.args.judged.now.new c.args.judged.now c.requires.valid c.requires.legal c.requires.score c.requires.unit c.requires.allowed c.requires.difference).boundary.ceiling)

pub changed-penalty-requires-clause-floor : goal.changed-penalty-requires-clause-floor
changed-penalty-requires-clause-floor c = rw (to_z-of_z w128 c.args.judged.now.penalty (search rules)) ((all-take c.args.problem.now c.args.plan.now c.args.score.now c.args.judged.now.unit c.args.judged.now.new c.args.judged.now c.requires.valid c.requires.legal c.requires.score c.requires.unit c.requires.allowed c.requires.difference).penalty.floor)

pub changed-penalty-requires-clause-ceiling : goal.changed-penalty-requires-clause-ceiling
changed-penalty-requires-clause-ceiling c = rw (to_z-of_z w128 c.args.judged.now.penalty (search rules)) ((all-take c.args.problem.now c.args.plan.now c.args.score.now c.args.judged.now.unit c.args.judged.now.new c.args.judged.now c.requires.valid c.requires.legal c.requires.score c.requires.unit c.requires.allowed c.requires.difference).penalty.ceiling)

pub returns : goal.returns
returns c =
    score-moved c.args.problem.now c.args.plan.now c.args.score.now c.args.judged.now.unit c.args.judged.now.new c.args.judged.now _ _ _ c.requires.score c.requires.difference
    (c.changed-cost.ensures.sum ∙ ap (λ (change : ℤ). pos c.args.score.now.cost +ℤ change) (to_z-of_z w128 c.args.judged.now.cost (search rules)))
    (c.changed-boundary.ensures.sum ∙ ap (λ (change : ℤ). pos c.args.score.now.boundary +ℤ change) (to_z-of_z w128 c.args.judged.now.boundary (search rules)))
    (c.changed-penalty.ensures.sum ∙ ap (λ (change : ℤ). pos c.args.score.now.penalty +ℤ change) (to_z-of_z w128 c.args.judged.now.penalty (search rules)))
