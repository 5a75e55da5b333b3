use Rattle.std.proofs.Common.{◌≡◌, map, take}
use Rattle.mz_watch.specs.Watcher.{report_of}
use Rattle.mz_run.proofs.reports.reports_of.Given as goal

abbrev pub invariant-loop-watcher : goal.invariant-loop-watcher
invariant-loop-watcher g l =
    l.reports.items
    ≡ map (λ w. report_of ((goal.Watcher-dyn g (w.vtable, w.value)).noted w.value)) (take l.watcher-index l.watchers)
