use Rattle.std.proofs.Common.{arith}
use Rattle.mz_history.proofs.StartLemmas.{started-more, started_plan, started_plan-legal}
use Rattle.mz_history.proofs.starting_plan.starting_zones.Goals as goal

pub loop-unit-preserved : goal.loop-unit-preserved
loop-unit-preserved c = started-more _ _ _ _ _ _ _ _ _ _ c.loop-unit.invariant c.starting_zone.ensures.zone c.starting_zone.ensures.allowed c.starting_zone.ensures.words c.in_ok-push.ensures.items

pub returns-clause-plan : goal.returns-clause-plan
returns-clause-plan c = started_plan _ _ _ _ _ _ _ (omega (arith, c.loop-unit-test.false, c.loop-unit.auto.unit-end, c.units-unit-end.ensures.count)) c.loop-unit.invariant

pub returns-clause-legal : goal.returns-clause-legal
returns-clause-legal c = started_plan-legal _ _ _ _ _ _ _ (omega (arith, c.loop-unit-test.false, c.loop-unit.auto.unit-end, c.units-unit-end.ensures.count)) c.loop-unit.invariant
