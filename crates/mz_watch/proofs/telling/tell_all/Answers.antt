use Rattle.std.proofs.Common.{arith}
use Rattle.mz_watch.proofs.TellingLemmas.{one_changed}
use Rattle.mz_watch.proofs.telling.tell_all.Goals as goal

pub loop-watcher-preserved : goal.loop-watcher-preserved
loop-watcher-preserved g c = one_changed _ _ c.loop-watcher.watcher-index _ c.loop-watcher.watcher-items c.watcher-item.result _ c.loop-watcher.invariant (omega (arith, c.loop-watcher-test.true, c.loop-watcher.auto.watcher-items)) c.tell_journal.ensures
