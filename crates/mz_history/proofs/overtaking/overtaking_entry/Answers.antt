use Rattle.std.proofs.Common.{sym, ◌∙◌}
use Rattle.mz_history.specs.Verdict.{overtakes}
use Rattle.mz_history.proofs.OvertakingLemmas.{last-more, last-same}
use Rattle.mz_history.proofs.overtaking.overtaking_entry.Goals.{then-overtakes, else-overtakes}
use Rattle.mz_history.proofs.overtaking.overtaking_entry.Goals as goal

pub loop-position-preserved : goal.loop-position-preserved
loop-position-preserved c = let test = overtakes c.args.problem.now c.args.journal.now c.args.front c.args.unit in
    elim c.if-overtakes.branch [
      | then-overtakes w ↦ w.last-is ∙ last-more c.loop-position.position test (sym c.overtakes.ensures ∙ w.if-overtakes.true)
      | else-overtakes w ↦ last-same c.loop-position.position test _ (w.last-is ∙ c.loop-position.invariant) (sym c.overtakes.ensures ∙ w.if-overtakes.false)
    ]
