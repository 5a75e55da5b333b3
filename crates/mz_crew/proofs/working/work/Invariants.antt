use Rattle.std.proofs.Common.{◌-◌}
use Rattle.mz_crew.proofs.WorkLaws.{StandsAt}
use Rattle.mz_crew.proofs.working.work.Given as goal

abbrev pub invariant-loop-pass : goal.invariant-loop-pass
invariant-loop-pass g l = StandsAt l.store.run l.problem l.fn.pass l.pass l.draw l.ahead l.drawer l.reading l.judged

abbrev pub decreases-loop-pass : goal.decreases-loop-pass
decreases-loop-pass g l = l.store.run.limit - l.pass.reached
