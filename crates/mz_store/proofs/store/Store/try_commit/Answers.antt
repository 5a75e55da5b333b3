use Rattle.std.proofs.Common.{ap, refl}
use Rattle.mz_board.specs.Chair.{ChairState}
use Rattle.mz_store.specs.declared.told.Told.{Told}
use Rattle.mz_store.specs.RunSetting.{RunSetting}
use Rattle.mz_store.proofs.CommitLaws.{committed-at_once, committed-pass, judged-next, tried-once}
use Rattle.mz_store.proofs.StoreLaws.{store-now}
use Rattle.mz_store.proofs.store.Store.try_commit.Goals as goal

pub turn-turn-requires-clause-right : goal.turn-turn-requires-clause-right
turn-turn-requires-clause-right c = judged-next c.args.self.now c.pass.inside.chair c.pass.inside.seat c.pass.inside.number c.pass.inside.reached _ _ c.args.pass.now c.in-Ok.held (record {
  store = store-now _ c.args.self.now c.self.view_is c.self.invariant;
  pass = c.pass.invariant;
  old_is = c.pass.view_is;
  here = c.requires.store;
  takes = c.in-Ok.ensures.0;
})
    c.try_take.new.chair c.args.reading.now c.args.judged.now (ap (λ (h : ChairState Told RunSetting). h.number) c.in-Ok.ensures.1) c.requires.right

pub invariant_of-pass : goal.invariant_of-pass
invariant_of-pass c = committed-pass c.args.self.now c.pass.inside.chair c.pass.inside.seat c.pass.inside.number c.pass.inside.reached _ _ c.args.pass.now c.in-Ok.held (record {
  store = store-now _ c.args.self.now c.self.view_is c.self.invariant;
  pass = c.pass.invariant;
  old_is = c.pass.view_is;
  here = c.requires.store;
  takes = c.in-Ok.ensures.0;
})
    c.try_take.new.chair c.turn-turn.new.chair c.args.reading.now c.turn-turn.result c.pass.inside.chair.tries c.pass.inside.chair.found c.in-Ok.ensures.1 c.turn-turn.ensures

pub returns-in-Ok : goal.returns-in-Ok
returns-in-Ok c = tried-once c.args.self.now.run c.args.pass.now _ c.args.reading.now c.turn-turn.result.verdict _ c.at_once.ensures (committed-at_once c.args.self.now c.pass.inside.chair c.pass.inside.seat c.pass.inside.number c.pass.inside.reached _ _ c.args.pass.now c.in-Ok.held (record {
  store = store-now _ c.args.self.now c.self.view_is c.self.invariant;
  pass = c.pass.invariant;
  old_is = c.pass.view_is;
  here = c.requires.store;
  takes = c.in-Ok.ensures.0;
})
    c.try_take.new.chair c.turn-turn.new.chair c.args.reading.now c.turn-turn.result c.pass.inside.chair.tries c.pass.inside.chair.found c.in-Ok.ensures.1 c.turn-turn.ensures refl refl)
