use Rattle.std.proofs.Common.{◌≡◌, ◌++◌}
use Rattle.std.specs.List.{concat}
use Rattle.mz_num.specs.Places.{list_below}
use Rattle.mz_files.specs.Summed.{summed_line}
use Rattle.mz_files.proofs.summed.push_units.Given as goal

abbrev pub invariant-loop-unit : goal.invariant-loop-unit
invariant-loop-unit l = l.text.items ≡ l.initial.text.items ++ concat (list_below l.unit (summed_line l.problem l.summed))
