use Rattle.mz_model.proofs.BuildLaws.{AreTouches}
use Rattle.mz_model.proofs.build.touches_by_unit.Given as goal

abbrev pub invariant-loop-row : goal.invariant-loop-row
invariant-loop-row l = AreTouches l.parts l.row l.lists
