use Rattle.std.proofs.Common.{ap}
use Rattle.mz_store.specs.RunSetting.{RunSetting}
use Rattle.store_tests.proofs.PassLaws.{fresh-in-order}
use Rattle.store_tests.proofs.tests.closes.left_at_once.Goals as goal

pub close-closed-requires-clause-passes : goal.close-closed-requires-clause-passes
close-closed-requires-clause-passes c = fresh-in-order c.in_ok-store.store 1 c.in_ok-store.passes.items c.in_ok-store.ensures.passes (ap (λ (r : RunSetting). r.seats) c.in_ok-store.ensures.run)
