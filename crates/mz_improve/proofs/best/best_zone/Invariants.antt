use Rattle.std.proofs.Common.{◌+◌}
use Rattle.mz_delta.specs.Rooms.{FitsJudged}
use Rattle.mz_improve.proofs.BestLaws.{IsSoFar}
use Rattle.mz_improve.proofs.best.best_zone.Given as goal

abbrev pub invariant-loop-zone : goal.invariant-loop-zone
invariant-loop-zone l = IsSoFar l.problem l.plan l.reading.unit (l.zone-index + 1) l.best × FitsJudged l.problem l.judged
