use Rattle.std.proofs.Common.{ap, rules}
use denote.Param.Send.{sendable}
use Rattle.mz_store.proofs.CrossingLaws.{store_sync}
use Rattle.mz_store.specs.RunSetting.{RunSetting}
use Rattle.store_tests.proofs.PassLaws.{fresh-all, fresh-in-order}
use Rattle.store_tests.proofs.tests.threads.entries_of_eight.Goals as goal

pub work_all-requires-clause-passes : goal.work_all-requires-clause-passes
work_all-requires-clause-passes g c κs within = fresh-all c.in_ok-store.store 8 c.in_ok-store.passes.items c.in_ok-store.ensures.passes (search rules)

pub work_all-requires-clause-order : goal.work_all-requires-clause-order
work_all-requires-clause-order g c κs within = fresh-in-order c.in_ok-store.store 8 c.in_ok-store.passes.items c.in_ok-store.ensures.passes (ap (λ (r : RunSetting). r.seats) c.in_ok-store.ensures.run)

pub work_all-requires-sync-S : goal.work_all-requires-sync-S
work_all-requires-sync-S g c κs within = search (sendable, store_sync) depth 20
