use Rattle.std.proofs.Common.{◌≡◌, take}
use Rattle.mz_model.specs.Move.{moved_plan}
use Rattle.mz_model.specs.Targets.{touched_rows}
use Rattle.mz_improve.proofs.TotalLaws.{totals_done}
use Rattle.mz_improve.proofs.moves.move_totals.Given as goal

abbrev pub invariant-loop-i : goal.invariant-loop-i
invariant-loop-i l = l.totals ≡ totals_done l.problem l.plan (moved_plan l.plan l.judged.unit l.judged.new) (take l.i (touched_rows l.problem l.judged.unit))
