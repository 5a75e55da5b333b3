use Rattle.mz_store.proofs.StoreLaws.{store-now}
use Rattle.mz_store.proofs.store.Store.load_front.Goals as goal

pub returns-clause-valid : goal.returns-clause-valid
returns-clause-valid c = store-now _ c.args.self.now c.self.view_is c.self.invariant
