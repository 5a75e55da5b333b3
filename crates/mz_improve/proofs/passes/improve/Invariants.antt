use Rattle.mz_improve.proofs.PassLaws.{IsOnTheWay}
use Rattle.mz_improve.proofs.passes.improve.Given as goal

abbrev pub invariant-loop-changes : goal.invariant-loop-changes
invariant-loop-changes l = IsOnTheWay l.problem l.fn.plan l.fn.score l.plan l.totals l.score l.reading l.judged l.changes

abbrev pub decreases-loop-changes : goal.decreases-loop-changes
decreases-loop-changes l = l.score.total
