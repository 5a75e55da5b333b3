use Rattle.std.proofs.Common.{take}
use Rattle.mz_model.specs.Targets.{touched_rows}
use Rattle.mz_state.proofs.MoveRowLaws.{AreRowsDone}
use Rattle.mz_state.proofs.standing.move_rows.Given as goal

abbrev pub invariant-loop-i : goal.invariant-loop-i
invariant-loop-i l = AreRowsDone l.problem l.plan l.judged l.count l.fn.versions.items (take l.i (touched_rows l.problem l.judged.unit)) l.totals.items l.versions.items
