use Rattle.std.proofs.Common.{◌≡◌, ◌++◌, map, take}
use Rattle.mz_files.specs.Turns.{seat_code}
use Rattle.mz_files.proofs.turns.push_seats.Given as goal

abbrev pub invariant-loop-seat : goal.invariant-loop-seat
invariant-loop-seat l = l.text.items ≡ l.initial.text.items ++ map seat_code (take l.seat-index l.seats)
