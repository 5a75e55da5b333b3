use Rattle.mz_state.proofs.KeptLaws.{drawn-next}
use Rattle.mz_state.proofs.kept.Kept.next_draw.Goals as goal

pub returns : goal.returns
returns c = drawn-next _ _ _ c.args.seat _ _ c.self.view_is c.self.invariant.0.agrees.draws_are c.requires c.index.ensures
