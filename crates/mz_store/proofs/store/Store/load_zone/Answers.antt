use Rattle.std.proofs.Common.{arith}
use Rattle.mz_store.proofs.StoreLaws.{store-now, unit-word, zone-small}
use Rattle.mz_store.proofs.store.Store.load_zone.Goals as goal

pub load_item-requires-clause-item : goal.load_item-requires-clause-item
load_item-requires-clause-item c κs = unit-word _ c.args.self.now c.args.chair.now.lock c.args.unit c.self.view_is c.self.invariant c.requires.store c.requires.unit

pub overflow_cast-result : goal.overflow_cast-result
overflow_cast-result c = let small = zone-small c.args.self.now c.args.chair.now.lock c.args.unit c.load_item.result (store-now _ c.args.self.now c.self.view_is c.self.invariant) c.requires.store c.requires.unit c.load_item.ensures.may in omega (arith, small)
