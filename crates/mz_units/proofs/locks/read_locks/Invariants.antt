use Rattle.mz_units.proofs.LockLemmas.{AreLocksSoFar}
use Rattle.mz_units.proofs.locks.read_locks.Given as goal

abbrev pub invariant-loop-row : goal.invariant-loop-row
invariant-loop-row l = AreLocksSoFar l.units l.zones l.allowed l.table l.locked.items l.sets.items l.row
