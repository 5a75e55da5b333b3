use Rattle.std.proofs.Common.{◌≡◌, ◌++◌}
use Rattle.std.specs.List.{concat}
use Rattle.mz_num.specs.Places.{list_below}
use Rattle.mz_files.specs.Summed.{zone_name}
use Rattle.mz_files.proofs.summed.push_zone_names.Given as goal

abbrev pub invariant-loop-zone : goal.invariant-loop-zone
invariant-loop-zone l = l.text.items ≡ l.initial.text.items ++ concat (list_below l.zone (zone_name l.problem))
