use Rattle.std.proofs.Common.{◌≡◌, ◌==◌, false, take}
use Rattle.std.specs.Prelude.{not}
use Rattle.std.specs.List.{list_any}
use Rattle.mz_model.specs.Targets.{gain_of, touched_rows}
use Rattle.mz_history.proofs.overtaking.changes_row.Given as goal

abbrev pub invariant-loop-i : goal.invariant-loop-i
invariant-loop-i l = list_any (λ row. not (gain_of l.problem row l.entry.unit l.entry.old == gain_of l.problem row l.entry.unit l.entry.new)) (take l.i (touched_rows l.problem l.unit)) ≡ false
