use Rattle.mz_watch.proofs.TellingLemmas.{told_more}
use Rattle.mz_watch.proofs.telling.tell_journal.Goals as goal

pub loop-at-preserved : goal.loop-at-preserved
loop-at-preserved g c = told_more c.args.run c.loop-at.at _ _ _ c.args.journal.now _ c.loop-at-test.true c.loop-at.invariant c.tell_entry.ensures
