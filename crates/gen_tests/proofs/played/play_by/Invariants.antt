use Rattle.mz_delta.specs.Rooms.{FitsJudged, FitsReading}
use Rattle.gen_tests.specs.Play.{IsPlay}
use Rattle.gen_tests.proofs.played.play_by.Given as goal

abbrev pub invariant-loop-seat : goal.invariant-loop-seat
invariant-loop-seat l = IsPlay l.problem l.rules l.seed l.kept × FitsReading l.problem l.reading × FitsJudged l.problem l.judged
