use Rattle.mz_state.proofs.SampleLaws.{HasSampled}
use Rattle.mz_state.proofs.sample.changes_of.Given as goal

abbrev pub invariant-loop : goal.invariant-loop
invariant-loop l = HasSampled l.problem l.plan l.seed l.run l.counter l.changes.items l.drawer l.reading l.judged
