use Rattle.mz_store.proofs.StoreLaws.{row-word}
use Rattle.mz_store.proofs.store.Store.load_total.Goals as goal

pub load_item-requires-clause-item : goal.load_item-requires-clause-item
load_item-requires-clause-item c κs = row-word _ c.args.self.now c.args.chair.now.lock c.units.result c.args.row c.self.view_is c.self.invariant c.requires.store c.units.ensures.count c.requires.row
