use Rattle.std.proofs.Common.{◌≡◌, take}
use Rattle.mz_history.specs.Core.{seats_of}
use Rattle.mz_run.proofs.anneal.turns_of.Given as goal

abbrev pub invariant-loop-entry : goal.invariant-loop-entry
invariant-loop-entry l = l.turns.items ≡ seats_of (take l.entry-index l.journal)
