use Rattle.std.proofs.Common.{◌≡◌, drop}
use Rattle.mz_model.specs.Targets.{touched_rows}
use Rattle.mz_store.specs.Turns.{row_writes, with_owes}
use Rattle.mz_store.proofs.store.Store.store_rows.Given as goal

abbrev pub invariant-loop-i : goal.invariant-loop-i
invariant-loop-i l = l.chair ≡ with_owes l.fn.chair (row_writes l.self.run.setting.parts l.judged.unit l.judged.old l.judged.new (drop l.i (touched_rows l.self.run.setting.parts l.judged.unit)) (drop l.i l.judged.totals.items))
