use Rattle.mz_model.proofs.BuildLaws.{AreNeighbours}
use Rattle.mz_model.proofs.build.neighbours_by_unit.Given as goal

abbrev pub invariant-loop-first : goal.invariant-loop-first
invariant-loop-first l = AreNeighbours l.parts l.first-index l.lists
