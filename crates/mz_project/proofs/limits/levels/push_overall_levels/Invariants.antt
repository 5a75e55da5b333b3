use Rattle.std.proofs.Common.{◌≡◌, ◌++◌}
use Rattle.mz_num.specs.Places.{list_below}
use Rattle.mz_project.specs.Levels.{overall_level}
use Rattle.mz_project.proofs.limits.levels.push_overall_levels.Given as goal

abbrev pub invariant-loop-feature : goal.invariant-loop-feature
invariant-loop-feature l = l.levels.items ≡ l.initial.levels.items ++ list_below l.feature (overall_level l.region.targets)
