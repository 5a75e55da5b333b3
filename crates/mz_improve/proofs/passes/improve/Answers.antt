use Rattle.std.proofs.Common.{refl, arith}
use Rattle.mz_improve.proofs.PassLaws.{improved-best, improved-is, pass-falls, passed, score-small, underway-last, way-on, way-room}
use Rattle.mz_improve.proofs.passes.improve.Goals as goal

pub returns-then-more-eq0-clause-best : goal.returns-then-more-eq0-clause-best
returns-then-more-eq0-clause-best c =
    let pass = c.improve_units-more.ensures in
    improved-best c.args.problem.now c.args.plan.now _ _ pass.valid (underway-last c.args.problem.now c.args.plan.now _ _ _ _ c.loop-changes.invariant.underway pass.plan pass.changes c.if-more-eq0.true)

pub returns-then-more-eq0-clause-plan : goal.returns-then-more-eq0-clause-plan
returns-then-more-eq0-clause-plan c =
    let pass = c.improve_units-more.ensures in
    improved-is c.args.problem.now c.args.plan.now _ _ (underway-last c.args.problem.now c.args.plan.now _ _ _ _ c.loop-changes.invariant.underway pass.plan pass.changes c.if-more-eq0.true)

pub returns-then-more-eq0-clause-lower : goal.returns-then-more-eq0-clause-lower
returns-then-more-eq0-clause-lower c =
    let pass = c.improve_units-more.ensures in
    let room = way-room c.args.problem.now c.args.plan.now _ _ _ _ c.args.score.now _ _ _ _ _ _ _ _ c.loop-changes.invariant (passed c.args.problem.now _ _ _ _ _ _ _ _ pass.legal pass.totals pass.score pass.reading_fits pass.judged_fits pass.plan pass.changes refl) in
    omega (arith, room)

pub overflow_add-changes : goal.overflow_add-changes
overflow_add-changes c =
    let pass = c.improve_units-more.ensures in
    let room = way-room c.args.problem.now c.args.plan.now _ _ _ _ c.args.score.now _ _ _ _ _ _ _ _ c.loop-changes.invariant (passed c.args.problem.now _ _ _ _ _ _ _ _ pass.legal pass.totals pass.score pass.reading_fits pass.judged_fits pass.plan pass.changes c.from-changes.ensures) in
    let small = score-small c.args.problem.now c.args.plan.now c.args.score.now pass.valid c.requires.legal c.requires.score in
    omega (arith, room, small)

pub loop-changes-smaller : goal.loop-changes-smaller
loop-changes-smaller c =
    let pass = c.improve_units-more.ensures in
    let falls = pass-falls c.args.problem.now _ _ _ _ _ _ _ _ _ _ _ c.loop-changes.invariant.standing (passed c.args.problem.now _ _ _ _ _ _ _ _ pass.legal pass.totals pass.score pass.reading_fits pass.judged_fits pass.plan pass.changes refl) in
    omega (arith, falls, c.if-more-eq0.false)

pub loop-changes-preserved : goal.loop-changes-preserved
loop-changes-preserved c =
    let pass = c.improve_units-more.ensures in
    way-on c.args.problem.now c.args.plan.now _ _ _ _ c.args.score.now _ _ _ _ _ _ _ _ c.loop-changes.invariant (passed c.args.problem.now _ _ _ _ _ _ _ _ pass.legal pass.totals pass.score pass.reading_fits pass.judged_fits pass.plan pass.changes c.from-changes.ensures) (omega (arith, c.from-changes.ensures, c.if-more-eq0.false))
