use Rattle.std.proofs.Common.{◌≡◌, ◌≤◌, take}
use Rattle.mz_history.specs.Core.{seats_of}
use Rattle.mz_history.specs.Replay.{turns_of}
use Rattle.mz_history.proofs.world.turns_of.Given as goal

abbrev pub invariant-loop-entry : goal.invariant-loop-entry
invariant-loop-entry l = record { turns : l.turns ≡ turns_of l.seat (seats_of (take l.entry-index l.journal)); few : l.turns ≤ l.entry-index }
