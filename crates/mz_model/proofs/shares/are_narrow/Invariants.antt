use Rattle.std.proofs.Common.{take}
use Rattle.std.specs.List.{All}
use Rattle.mz_model.specs.Built.{IsNarrowRow}
use Rattle.mz_model.proofs.shares.are_narrow.Given as goal

abbrev pub invariant-loop-target : goal.invariant-loop-target
invariant-loop-target l = All IsNarrowRow (take l.target-index l.targets)
