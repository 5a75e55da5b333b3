use Rattle.std.proofs.Common.{length}
use Rattle.mz_crew.proofs.CrewLaws.{ReadyBelow}
use Rattle.mz_crew.proofs.worker.make_workers.Given as goal

abbrev pub invariant-loop-pass : goal.invariant-loop-pass
invariant-loop-pass l =
    (goal.iterator-loop-pass).can_next l.pass-iterator × (goal.iterator-loop-pass).is_finite l.pass-iterator
    × ReadyBelow l.store l.problem (length l.yielded) l.workers.items
