use Rattle.std.proofs.Common.{◌≡◌, length}
use Rattle.mz_num.specs.Places.{list_below}
use Rattle.mz_store.specs.Pass.{fresh_pass}
use Rattle.mz_store.proofs.store.passes_of.Given as goal

abbrev pub invariant-loop-chair : goal.invariant-loop-chair
invariant-loop-chair l =
    (goal.iterator-loop-chair).can_next l.chair-iterator × (goal.iterator-loop-chair).is_finite l.chair-iterator
    × (l.passes.items ≡ list_below (length l.yielded) (fresh_pass l.board))
