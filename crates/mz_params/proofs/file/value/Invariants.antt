use Rattle.std.proofs.Common.{◌≡◌, drop}
use Rattle.mz_params.specs.Lines.{value_of}
use Rattle.mz_params.proofs.file.value.Given as goal

abbrev pub invariant-loop-line : goal.invariant-loop-line
invariant-loop-line l = value_of l.key (drop l.line-index l.lines) ≡ value_of l.key l.lines
