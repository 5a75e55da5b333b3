use Rattle.mz_watch.specs.Watcher.{report_of}
use Rattle.mz_run.proofs.WatchingLemmas.{reports_seen}
use Rattle.mz_run.proofs.reports.reports_of.Goals as goal

pub returns : goal.returns
returns g c =
    reports_seen (λ w. (goal.Watcher-dyn g (w.vtable, w.value)).noted w.value) report_of c.args.watchers.now c.loop-watcher.watcher-index c.loop-watcher.reports.items c.loop-watcher-test.false c.loop-watcher.invariant
