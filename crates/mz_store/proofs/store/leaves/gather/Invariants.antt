use Rattle.std.proofs.Common.{vec_len}
use Rattle.mz_store.proofs.LeaveLaws.{Gathers}
use Rattle.std.specs.Vec.{vec_capacity}
use Rattle.mz_store.proofs.store.leaves.gather.Given as goal

abbrev pub invariant-loop-pass : goal.invariant-loop-pass
invariant-loop-pass l = Gathers l.board l.fn.passes.items l.passes.items l.chairs.items (vec_capacity l.chairs)

abbrev pub decreases-loop-pass : goal.decreases-loop-pass
decreases-loop-pass l = vec_len l.passes
