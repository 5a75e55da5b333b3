use Rattle.std.proofs.Common.{◌≡◌, ◌*◌}
use Rattle.mz_delta.specs.Rooms.{FitsJudged, FitsReading}
use Rattle.judge_bench.proofs.moves.judge_moves.Given as goal

abbrev pub invariant-loop-move : goal.invariant-loop-move
invariant-loop-move l = record { reading : FitsReading l.problem l.reading; judged : FitsJudged l.problem l.judged; taken : l.drawer.taken ≡ 3 * l._move }
