use Rattle.std.proofs.Common.{ap, rules}
use Rattle.mz_store.specs.Store.{StoreState}
use Rattle.mz_store.proofs.StoreLaws.{row-word}
use Rattle.mz_store.proofs.store.Store.prefetch_first_row.Goals as goal

pub prefetch-requires-after_bounds : goal.prefetch-requires-after_bounds
prefetch-requires-after_bounds c κs = row-word _ c.args.self.now _ c.units.result c.in-Some.touch.now.row c.self.view_is c.self.invariant (ap (λ (s : StoreState). s.board) c.self.view_is) c.units.ensures.count (search rules)
