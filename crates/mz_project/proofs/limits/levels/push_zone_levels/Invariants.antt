use Rattle.std.proofs.Common.{◌≡◌, ◌++◌, map, take}
use Rattle.mz_project.specs.Levels.{zone_level}
use Rattle.mz_project.proofs.limits.levels.push_zone_levels.Given as goal

abbrev pub invariant-loop-target : goal.invariant-loop-target
invariant-loop-target l = l.levels.items ≡ l.initial.levels.items ++ map (zone_level l.region.targets) (take l.target-index l.region.targets.zone_targets)
