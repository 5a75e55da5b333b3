use denote.Param.Send.{sendable}
use Rattle.mz_history.specs.Rules.{setting_with}
use Rattle.mz_store.proofs.CrossingLaws.{store_sync}
use Rattle.mz_crew.proofs.CrewLaws.{annealed}
use Rattle.mz_crew.proofs.annealing.anneal.Goals as goal

pub work_at_once-requires-sync-S : goal.work_at_once-requires-sync-S
work_at_once-requires-sync-S g c κs within = search (sendable, store_sync) depth 20

pub returns : goal.returns
returns g c =
    annealed c.in_ok-store.store (setting_with c.args.problem.now c.args.rules.now c.args.seed c.args.run) c.args.rules.now.limit c.args.workers c.in_ok-passes.passes.items _ _ _ _
    c.in_ok-store.ensures.run c.requires.some_worker c.in_ok-passes.ensures c.close-closed.ensures
