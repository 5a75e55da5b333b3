use Rattle.mz_store.proofs.CloseLaws.{all-chairs, closes}
use Rattle.mz_store.proofs.store.Store.close.Goals as goal

pub close-kept-requires-after_bounds : goal.close-kept-requires-after_bounds
close-kept-requires-after_bounds c κs = all-chairs _ c.args.self c.args.passes.items c.gather-chairs.result.items c.self.view_is c.self.invariant c.requires c.gather-chairs.ensures

pub returns : goal.returns
returns c = closes _ c.args.self c.args.passes.items c.gather-chairs.result.items c.close-kept.result c.into_inner.result c.finish.result.journal.items c.finish.result.plan c.finish.result.totals.items c.finish.result.score
    c.self.view_is c.self.invariant c.gather-chairs.ensures c.close-kept.ensures.setting c.close-kept.ensures.lists c.close-kept.ensures.reached c.into_inner.ensures c.finish.ensures
