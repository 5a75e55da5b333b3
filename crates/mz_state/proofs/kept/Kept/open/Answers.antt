use Rattle.std.proofs.Common.{ap, arith, length, refl, rules, ◌∙◌}
use Rattle.mz_state.proofs.KeptLaws.{opened}
use Rattle.mz_history.specs.declared.rules.Rules.{Rules}
use Rattle.mz_state.proofs.LevelLaws.{level-opened, level-over}
use Rattle.mz_state.proofs.kept.Kept.open.Goals as goal

pub level_after-level-requires-clause-from : goal.level_after-level-requires-clause-from
level_after-level-requires-clause-from c = level-over _ _

pub invariant_of-result : goal.invariant_of-result
invariant_of-result c = (
  opened c.args.problem.now c.args.rules.now _ _ c.args.seed c.args.run _ c.args.seats _ _ _ _ _ _ _ _ _ c.of-2.ensures c.of-3.ensures c.requires.rules c.requires.runs c.requires.workers c.in_ok-plan.ensures.valid c.in_ok-journal.ensures.items refl
      (search rules) (omega (arith, c.in_ok-journal.ensures.capacity)) (c.in_ok-standing.ensures.plan ∙ c.in_ok-plan.ensures.plan) c.in_ok-standing.ensures.position c.in_ok-standing.ensures.units c.in_ok-standing.ensures.rows c.in_ok-standing.ensures.last,
  level-opened _ _ _ _ _ _ (ap (λ (r : Rules). r.schedule) c.of-3.ensures) refl (ap length c.in_ok-journal.ensures.items) c.level_after-level.ensures.from c.level_after-level.ensures.here,
)

pub returns-clause-kept : goal.returns-clause-kept
returns-clause-kept c = (
    opened c.args.problem.now c.args.rules.now _ _ c.args.seed c.args.run _ c.args.seats _ c.args.rules.now.limit _ _ _ _ _ _ _ c.of-2.ensures c.of-3.ensures c.requires.rules c.requires.runs c.requires.workers c.in_ok-plan.ensures.valid c.in_ok-journal.ensures.items refl
    (search rules) (omega arith) (c.in_ok-standing.ensures.plan ∙ c.in_ok-plan.ensures.plan) c.in_ok-standing.ensures.position c.in_ok-standing.ensures.units c.in_ok-standing.ensures.rows c.in_ok-standing.ensures.last).kept
