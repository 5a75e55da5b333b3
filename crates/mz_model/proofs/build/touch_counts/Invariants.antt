use Rattle.std.proofs.Common.{◌≡◌, length, map}
use Rattle.mz_model.specs.Parts.{unit_count}
use Rattle.mz_num.specs.Places.{list_below}
use Rattle.mz_model.proofs.BuildLaws.{touches_upto}
use Rattle.mz_model.proofs.build.touch_counts.Given as goal

abbrev pub invariant-loop-row : goal.invariant-loop-row
invariant-loop-row l = l.counts.items ≡ map length (list_below (unit_count l.parts) (touches_upto l.parts l.row))
