use Rattle.std.proofs.Common.{◌≡◌, ◌++◌}
use Rattle.std.specs.List.{concat}
use Rattle.mz_num.specs.Places.{list_below}
use Rattle.mz_files.specs.Turns.{turn_line}
use Rattle.mz_files.proofs.turns.push_lines.Given as goal

abbrev pub invariant-loop-line : goal.invariant-loop-line
invariant-loop-line l = l.text.items ≡ l.initial.text.items ++ concat (list_below l.line (turn_line l.turns))
