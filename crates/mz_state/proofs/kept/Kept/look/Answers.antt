use Rattle.mz_state.proofs.KeptLaws.{looked}
use Rattle.mz_state.proofs.kept.Kept.look.Goals as goal

pub returns-clause-looks : goal.returns-clause-looks
returns-clause-looks c = looked _ _ _ _ _ _ _ _ _ _ c.args.problem.now c.args.seat c.args.unit _ c.args.reading.now c.read_plan.new.reading c.self.view_is c.self.invariant.0 c.requires.problem c.read_plan.ensures.reads c.length-reading.ensures.count
