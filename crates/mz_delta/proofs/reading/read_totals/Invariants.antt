use Rattle.std.proofs.Common.{◌≡◌, ◌≤◌, map, take}
use Rattle.std.specs.Prelude.{slice_index}
use Rattle.mz_model.specs.declared.touch.Touch.{Touch}
use Rattle.mz_model.specs.Targets.{touches_of}
use Rattle.mz_delta.proofs.reading.read_totals.Given as goal

abbrev pub invariant-loop-touch : goal.invariant-loop-touch
invariant-loop-touch l = record { totals : l.read.items ≡ map (λ (touch : Touch). slice_index l.totals touch.row) (take l.touch-index (touches_of l.problem l.unit)); room : l.fn.read.room ≤ l.read.room }
