use Rattle.std.proofs.Common.{◌≡◌, drop}
use Rattle.mz_watch.specs.Watcher.{after_journal, after_entries}
use Rattle.mz_watch.proofs.telling.tell_journal.Given as goal

abbrev pub invariant-loop-at : goal.invariant-loop-at
invariant-loop-at g l =
    after_journal l.run l.journal ((goal.Watcher-dyn g (l.initial.watcher.vtable, l.initial.watcher.value)).noted l.initial.watcher.value)
    ≡ after_entries l.run l.at (drop l.at l.journal) ((goal.Watcher-dyn g (l.watcher.vtable, l.watcher.value)).noted l.watcher.value)
