use Rattle.std.proofs.Common.{arith}
use Rattle.mz_improve.proofs.PassLaws.{changes-few, flag-small, pass-changes, pass-plan}
use Rattle.mz_improve.proofs.passes.improve_units.Goals as goal

pub overflow_add-changes : goal.overflow_add-changes
overflow_add-changes c =
    omega (
      arith,
      changes-few c.args.problem.now c.args.plan.now c.loop-unit.unit,
      c.loop-unit.invariant.changes_are,
      c.from-changes.ensures,
      flag-small c.improve_unit-changed.result,
      c.loop-unit-test.true,
      c.units-unit-end.ensures.small,
    )

pub returns-clause-plan : goal.returns-clause-plan
returns-clause-plan c = pass-plan c.args.problem.now c.args.plan.now _ c.loop-unit.unit (omega (arith, c.loop-unit-test.false, c.loop-unit.auto.unit-end, c.units-unit-end.ensures.count)) c.loop-unit.invariant.plan_is

pub returns-clause-changes : goal.returns-clause-changes
returns-clause-changes c = pass-changes c.args.problem.now c.args.plan.now _ c.loop-unit.unit (omega (arith, c.loop-unit-test.false, c.loop-unit.auto.unit-end, c.units-unit-end.ensures.count)) c.loop-unit.invariant.changes_are
