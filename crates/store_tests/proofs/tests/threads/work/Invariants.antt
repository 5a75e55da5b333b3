use Rattle.std.proofs.Common.{◌≡◌}
use Rattle.mz_delta.specs.Rooms.{FitsJudged, FitsReading}
use Rattle.store_tests.proofs.tests.threads.work.Given as goal

abbrev pub invariant-loop : goal.invariant-loop
invariant-loop g l = (l.pass.store ≡ l.initial.pass.store) × (l.pass.seat ≡ l.initial.pass.seat)
    × FitsReading l.problem l.desk.reading × FitsJudged l.problem l.desk.judged
