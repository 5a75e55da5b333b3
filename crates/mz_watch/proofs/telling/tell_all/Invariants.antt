use Rattle.mz_watch.specs.Watcher.{after_journal}
use Rattle.mz_watch.proofs.TellingLemmas.{Changed}
use Rattle.mz_watch.proofs.telling.tell_all.Given as goal

abbrev pub invariant-loop-watcher : goal.invariant-loop-watcher
invariant-loop-watcher g l =
    Changed
    (λ w. (goal.Watcher-dyn g (w.vtable, w.value)).noted w.value)
    (λ w. after_journal l.run l.journal ((goal.Watcher-dyn g (w.vtable, w.value)).noted w.value))
    l.watcher-index l.fn.watchers.items l.watcher-items
