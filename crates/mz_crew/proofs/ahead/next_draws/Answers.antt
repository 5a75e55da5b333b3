use Rattle.std.proofs.Common.{rules}
use Rattle.mz_crew.proofs.AheadLaws.{drawn-all}
use Rattle.mz_crew.proofs.ahead.next_draws.Goals as goal

pub returns-clause-draws : goal.returns-clause-draws
returns-clause-draws c = drawn-all c.args.store.now.run c.args.pass.now c.loop-place.draws c.loop-place.drawer (search rules)
