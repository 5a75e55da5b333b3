use Rattle.std.proofs.Common.{ℕ, ◌+◌, ap, arith, refl, rules, sym, ◌∙◌}
use Rattle.std.specs.Int.{w128}
use Rattle.std.proofs.lemmas.Int.{to_z-of_z}
use Rattle.mz_cool.specs.Schedule.{Cooling}
use Rattle.mz_state.specs.Kept.{KeptState}
use Rattle.mz_state.proofs.ApplyLaws.{applied, draw-small, entry-next, kept-valid, move-small, moves-from}
use Rattle.mz_state.proofs.KeptLaws.{row-count, unit-count}
use Rattle.mz_state.proofs.LevelLaws.{level-at, level-behind, level-next}
use Rattle.mz_state.proofs.kept.Kept.apply_on.Goals as goal

pub accepts_on-accepted-requires-clause-size : goal.accepts_on-accepted-requires-clause-size
accepts_on-accepted-requires-clause-size c = rw (to_z-of_z w128 c.args.judged.now.change (search rules))
    (move-small c.args.problem.now _ c.args.judged.now (kept-valid _ _ _ _ _ _ _ _ _ _ c.args.problem.now c.self.view_is c.self.invariant.0 c.requires.problem)
    (moves-from _ _ _ _ _ _ _ _ _ _ c.args.problem.now c.args.judged.now c.self.view_is c.self.invariant.0 c.requires.problem c.requires.unit c.requires.next))

pub decide-requires-clause-moves : goal.decide-requires-clause-moves
decide-requires-clause-moves c = moves-from _ _ _ _ _ _ _ _ _ _ c.args.problem.now c.args.judged.now c.self.view_is c.self.invariant.0 c.requires.problem c.requires.unit c.requires.next

pub decide-requires-clause-units : goal.decide-requires-clause-units
decide-requires-clause-units c = unit-count _ _ _ _ _ c.args.problem.now c.self.view_is c.requires.problem c.self.invariant.0.agrees.versions

pub decide-requires-clause-rows : goal.decide-requires-clause-rows
decide-requires-clause-rows c = row-count _ _ _ _ _ c.args.problem.now c.self.view_is c.requires.problem c.self.invariant.0.agrees.versions

pub overflow_add-index_mut : goal.overflow_add-index_mut
overflow_add-index_mut c = let small = draw-small _ _ _ _ _ _ _ _ _ _ c.args.judged.now.seat _ _ c.self.view_is c.self.invariant.0 c.requires.seat c.index_mut.ensures.value in omega (arith, small)

pub returns-clause-entry : goal.returns-clause-entry
returns-clause-entry c = entry-next c.args.self.now c.args.judged.now _ _ c.args.self.now.setting.cooling _ _ _ refl c.length-position.ensures.count c.requires.next (to_z-of_z w128 c.args.judged.now.change (search rules)) (level-at _ c.args.self.now _ _ c.self.view_is c.self.invariant.1 c.length-position.ensures.count c.requires.not_full) (c.accepts_on-accepted.ensures c.args.judged.now.word c.requires.steps) c.entry_of-entry.ensures

pub accepts_on-accepted-requires-clause-above : goal.accepts_on-accepted-requires-clause-above
accepts_on-accepted-requires-clause-above c = c.self.invariant.1.from.least

pub accepts_on-accepted-requires-clause-below : goal.accepts_on-accepted-requires-clause-below
accepts_on-accepted-requires-clause-below c = c.self.invariant.1.from.most

pub level_after-self-inside-requires-clause-limit : goal.level_after-self-inside-requires-clause-limit
level_after-self-inside-requires-clause-limit c = c.self.invariant.0.kept.own_limit ∙ ap (λ (k : KeptState). k.setting.cooling.limit) c.self.view_is ∙ ap (λ (cooling : Cooling). cooling.limit) (sym c.requires.schedule)

pub level_after-self-inside-requires-clause-from : goal.level_after-self-inside-requires-clause-from
level_after-self-inside-requires-clause-from c = level-behind _ c.args.self.now _ _ c.length-position.result c.self.view_is c.self.invariant.1 c.requires.schedule c.length-position.ensures.count

pub invariant_of-self : goal.invariant_of-self
invariant_of-self c = (
  applied _ c.args.self.now _ _ _ _ _ _ _ _ _ _ _ _ c.args.problem.now c.args.judged.now c.accepts_on-accepted.result c.entry_of-entry.result _ _ _ _ _ _ _ c.self.view_is c.self.invariant.0 refl
      (record {
        own = c.requires.problem;
        unit = c.requires.unit;
        some_left = c.requires.not_full;
        seat = c.requires.seat;
        next = c.requires.next;
        entry = sym c.entry_of-entry.ensures ∙ entry-next c.args.self.now c.args.judged.now _ _ c.args.self.now.setting.cooling _ _ _ refl c.length-position.ensures.count c.requires.next (to_z-of_z w128 c.args.judged.now.change (search rules)) (level-at _ c.args.self.now _ _ c.self.view_is c.self.invariant.1 c.length-position.ensures.count c.requires.not_full) (c.accepts_on-accepted.ensures c.args.judged.now.word c.requires.steps) c.entry_of-entry.ensures;
        count_is = ap (λ (n : ℕ). n + 1) c.length-position.ensures.count;
      })
      c.index_mut.ensures.value c.entry_of-entry.ensures c.push_reserved.ensures.items c.push_reserved.ensures.capacity
      (record { plan_is = c.decide.ensures.plan; position = c.decide.ensures.position; units_are = c.decide.ensures.units; rows_are = c.decide.ensures.rows; last_is = c.decide.ensures.last }),
  level-next _ c.args.self.now _ _ _ c.length-position.result _ _ c.self.view_is c.requires.schedule refl c.length-position.ensures.count c.push_reserved.ensures.items c.level_after-self-inside.ensures.from c.level_after-self-inside.ensures.here,
)
