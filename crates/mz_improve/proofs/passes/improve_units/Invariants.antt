use Rattle.mz_improve.proofs.PassLaws.{IsInPass}
use Rattle.mz_improve.proofs.passes.improve_units.Given as goal

abbrev pub invariant-loop-unit : goal.invariant-loop-unit
invariant-loop-unit l = IsInPass l.problem l.fn.plan l.unit l.plan l.totals l.score l.reading l.judged l.changes
