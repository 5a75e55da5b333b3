use Rattle.std.proofs.Common.{◌≡◌, map, take}
use Rattle.mz_tables.specs.Wants.{want_of}
use Rattle.mz_tables.proofs.wants.Wants.of.Given as goal

abbrev pub invariant-loop-column : goal.invariant-loop-column
invariant-loop-column l = l.wants ≡ map want_of (take l.column-index l.columns)
