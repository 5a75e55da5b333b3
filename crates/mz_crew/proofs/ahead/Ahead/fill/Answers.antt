use Rattle.mz_crew.proofs.AheadLaws.{ahead-made}
use Rattle.mz_crew.proofs.ahead.Ahead.fill.Goals as goal

pub returns-then-self-eq-AT_ONCE-clause-ahead : goal.returns-then-self-eq-AT_ONCE-clause-ahead
returns-then-self-eq-AT_ONCE-clause-ahead c =
    let made = c.next_draws-self-inside.ensures in
    ahead-made c.args.store.now.run c.args.pass.now c.args.pass.now.number c.next_draws-self-inside.result c.next_draws-self-inside.new.drawer made.draws (rw c.requires.problem at made.units) made.drawer
