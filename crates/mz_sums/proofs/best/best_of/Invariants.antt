use Rattle.mz_sums.specs.Best.{IsBestOf}
use Rattle.mz_sums.proofs.best.best_of.Given as goal

abbrev pub invariant-loop-place : goal.invariant-loop-place
invariant-loop-place l = IsBestOf l.place l.scores l.best
