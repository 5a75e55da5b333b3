use Rattle.std.proofs.Common.{◌≤◌, ◌^◌, ap, arith}
use Rattle.std.proofs.lemmas.List.Elements.{All-push}
use Rattle.mz_store.specs.Loads.{rows_of}
use Rattle.mz_store.specs.Store.{StoreState}
use Rattle.mz_store.proofs.LookLaws.{few-rows, next-total, room-left, touch-count}
use Rattle.mz_store.proofs.store.Store.load_totals.Goals as goal

pub push-requires : goal.push-requires
push-requires c = room-left c.args.chair.now c.loop-touch.chair (rows_of c.args.self.now.run.setting.parts c.args.unit) c.loop-touch.totals.items c.loop-touch.touch-index _ _ _ c.loop-touch.invariant.0
    (touch-count c.args.self.now.run.setting.parts _ c.args.unit c.loop-touch.touch-index _ (ap (λ (s : StoreState). s.run.setting.parts) c.self.view_is) c.touches-touch-items.ensures.touches c.loop-touch-test.true)
    (few-rows c.args.self.now.run.setting.parts c.args.unit c.requires.unit) c.requires.fits c.loop-touch.invariant.2

pub loop-touch-preserved : goal.loop-touch-preserved
loop-touch-preserved c = (
  next-total c.args.self.now.run.setting.parts _ c.args.unit c.loop-touch.touch-index c.load_total.result _ _ c.args.chair.now c.loop-touch.chair c.load_total.new.chair c.loop-touch.totals.items _
      (ap (λ (s : StoreState). s.run.setting.parts) c.self.view_is) c.touches-touch-items.ensures.touches c.loop-touch-test.true c.loop-touch.invariant.0 c.load_total.ensures.now c.push.ensures.items,
  rw c.push.ensures.items (All-push (λ total. total ≤ 10 ^ 18) c.loop-touch.totals.items c.load_total.result c.loop-touch.invariant.1 c.load_total.ensures.small),
  omega (arith, c.push.ensures.room, c.loop-touch.invariant.2),
)
