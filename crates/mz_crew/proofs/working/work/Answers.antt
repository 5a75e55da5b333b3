use Rattle.std.proofs.Common.{arith}
use Rattle.mz_crew.proofs.AheadLaws.{past-of}
use Rattle.mz_crew.proofs.working.work.Goals as goal

pub returns-in-Full-clause-drawer : goal.returns-in-Full-clause-drawer
returns-in-Full-clause-drawer g c =
    let stands = c.loop-pass.invariant in
    let proposes = c.in-Full.ensures.proposes in
    past-of c.args.store.now.run c.loop-pass.pass c.propose.new.pass c.loop-pass.ahead c.loop-pass.drawer stands.ahead stands.few proposes.seat_is (omega (arith, proposes.number_is))
