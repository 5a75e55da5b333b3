use Rattle.mz_delta.specs.Rooms.{FitsJudged, FitsReading}
use Rattle.state_tests.specs.Game.{IsCore, IsGame}
use Rattle.state_tests.proofs.tests.events.are_answered_alike.Given as goal

abbrev pub invariant-loop-step : goal.invariant-loop-step
invariant-loop-step l =
    IsCore l.problem l.rules l.seed l.world × IsGame l.problem l.rules l.seed l.kept × FitsReading l.problem l.table.reading
    × FitsJudged l.problem l.table.judged
