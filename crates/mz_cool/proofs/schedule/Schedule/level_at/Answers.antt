use Rattle.mz_cool.proofs.LevelLemmas.{level-from, level-here, level-next}
use Rattle.mz_cool.proofs.schedule.Schedule.level_at.Goals as goal

pub returns-clause-level : goal.returns-clause-level
returns-clause-level c = level-from _ _ c.args.position _ _ _ _ _ _ c.self.view_is c.self.invariant.0 c.self.invariant.1 c.requires c.from.ensures c.from-levels.ensures c.from-limit.ensures c.div_ceil.ensures c.index.ensures

pub returns-clause-here : goal.returns-clause-here
returns-clause-here c = (level-here _ _ c.args.position _ _ _ _ c.self.view_is c.self.invariant.0 c.requires c.from.ensures c.from-levels.ensures c.from-limit.ensures c.div_ceil.ensures).0

pub returns-clause-next : goal.returns-clause-next
returns-clause-next c = λ p past. level-next _ _ c.args.position _ _ _ _ p c.self.view_is c.self.invariant.0 c.requires c.from.ensures c.from-levels.ensures c.from-limit.ensures c.div_ceil.ensures past
