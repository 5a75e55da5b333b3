use Rattle.mz_delta.specs.Rooms.{FitsJudged, FitsReading}
use Rattle.state_tests.specs.Game.{IsGame}
use Rattle.state_tests.proofs.tests.events.reply_to_last.Given as goal

abbrev pub invariant-loop-step : goal.invariant-loop-step
invariant-loop-step l = IsGame l.problem l.rules l.seed l.kept × FitsReading l.problem l.table.reading × FitsJudged l.problem l.table.judged
