use Rattle.std.proofs.Common.{map}
use Rattle.mz_run.specs.Ran.{RanFirst}
use Rattle.mz_run.specs.Watching.{AreTold}
use Rattle.mz_run.proofs.runs.all_runs.Given as goal

abbrev pub invariant-loop-done : goal.invariant-loop-done
invariant-loop-done g l =
    RanFirst l.job l.done l.trails.items l.counted (g.S.Shelf.state l.fn.shelf) (g.S.Shelf.state l.shelf) l.best
    × AreTold l.job l.trails.items
    (map (λ w. (goal.Watcher-dyn g (w.vtable, w.value)).noted w.value) l.fn.watchers.items)
    (map (λ w. (goal.Watcher-dyn g (w.vtable, w.value)).noted w.value) l.watchers.items)
