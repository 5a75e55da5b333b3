use Rattle.std.proofs.Common.{◌≡◌, take}
use Rattle.mz_units.specs.Wanted.{unit_columns}
use Rattle.mz_units.proofs.wanted.wants_units.Given as goal

abbrev pub invariant-loop-name : goal.invariant-loop-name
invariant-loop-name l = l.wants ≡ unit_columns (take l.name-index l.name-items)
