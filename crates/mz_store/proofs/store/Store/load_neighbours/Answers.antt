use Rattle.std.proofs.Common.{ap}
use Rattle.mz_store.specs.Loads.{places_around}
use Rattle.mz_store.specs.Store.{StoreState}
use Rattle.mz_store.proofs.LookLaws.{few-neighbours, near-count, next-zone, room-left}
use Rattle.mz_store.proofs.store.Store.load_neighbours.Goals as goal

pub push-requires : goal.push-requires
push-requires c = room-left c.args.chair.now c.loop-neighbour.chair (places_around c.args.self.now.run.setting.parts c.args.unit) c.loop-neighbour.zones.items c.loop-neighbour.neighbour-index _ _ _ c.loop-neighbour.invariant.0
    (near-count c.args.self.now.run.setting.parts _ c.args.unit c.loop-neighbour.neighbour-index _ (ap (λ (s : StoreState). s.run.setting.parts) c.self.view_is) c.neighbours-neighbour-items.ensures.neighbours c.loop-neighbour-test.true)
    (few-neighbours c.args.self.now.run.setting.parts c.args.unit c.requires.unit) c.requires.fits c.loop-neighbour.invariant.2

pub loop-neighbour-preserved : goal.loop-neighbour-preserved
loop-neighbour-preserved c = next-zone c.args.self.now.run.setting.parts _ c.args.unit c.loop-neighbour.neighbour-index c.load_zone.result _ _ c.args.chair.now c.loop-neighbour.chair c.load_zone.new.chair c.loop-neighbour.zones.items _ c.args.zones.now.room _ _
    (ap (λ (s : StoreState). s.run.setting.parts) c.self.view_is) c.neighbours-neighbour-items.ensures.neighbours c.loop-neighbour-test.true c.loop-neighbour.invariant.0 c.loop-neighbour.invariant.1 c.loop-neighbour.invariant.2 c.load_zone.ensures.allowed c.load_zone.ensures.now c.push.ensures.items c.push.ensures.room
