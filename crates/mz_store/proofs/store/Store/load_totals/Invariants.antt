use Rattle.std.proofs.Common.{◌≤◌, ◌^◌, take}
use Rattle.std.specs.List.{All}
use Rattle.mz_store.specs.Loads.{rows_of}
use Rattle.mz_store.proofs.LoadLaws.{HasLoaded}
use Rattle.mz_store.proofs.store.Store.load_totals.Given as goal

abbrev pub invariant-loop-touch : goal.invariant-loop-touch
invariant-loop-touch l =
    HasLoaded l.fn.chair l.chair (take l.touch-index (rows_of l.self.run.setting.parts l.unit)) l.totals.items
    × All (λ total. total ≤ 10 ^ 18) l.totals.items
    × (l.fn.totals.room ≤ l.totals.room)
