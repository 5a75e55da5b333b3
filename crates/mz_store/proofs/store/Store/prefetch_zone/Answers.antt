use Rattle.std.proofs.Common.{ap}
use Rattle.mz_store.specs.Store.{StoreState}
use Rattle.mz_store.proofs.StoreLaws.{unit-word}
use Rattle.mz_store.proofs.store.Store.prefetch_zone.Goals as goal

pub prefetch-requires-after_bounds : goal.prefetch-requires-after_bounds
prefetch-requires-after_bounds c κs = unit-word _ c.args.self.now _ c.args.unit c.self.view_is c.self.invariant (ap (λ (s : StoreState). s.board) c.self.view_is) c.requires
