use Rattle.mz_crew.proofs.AheadLaws.{ahead-taken}
use Rattle.mz_crew.proofs.ahead.Ahead.next.Goals as goal

pub returns-clause-ahead : goal.returns-clause-ahead
returns-clause-ahead c =
    ahead-taken c.args.store.now.run c.args.pass.now c.args.pass.now.number c.fill.new.self c.take.new.self c.take.result c.fill.new.drawer c.fill.ensures.ahead c.take.ensures
