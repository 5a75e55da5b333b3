use Rattle.std.proofs.Common.{ap}
use Rattle.mz_board.specs.Chair.{ChairState}
use Rattle.mz_store.specs.declared.told.Told.{Told}
use Rattle.mz_store.specs.RunSetting.{RunSetting}
use Rattle.mz_store.proofs.CommitLaws.{committed-commits, committed-pass, judged-next}
use Rattle.mz_store.proofs.StoreLaws.{store-now}
use Rattle.mz_store.proofs.store.Store.commit.Goals as goal

pub turn-turn-requires-clause-right : goal.turn-turn-requires-clause-right
turn-turn-requires-clause-right g c = judged-next c.args.self.now c.pass.inside.chair c.pass.inside.seat c.pass.inside.number c.pass.inside.reached _ _ c.args.pass.now c.take-held.result (record {
  store = store-now _ c.args.self.now c.self.view_is c.self.invariant;
  pass = c.pass.invariant;
  old_is = c.pass.view_is;
  here = c.requires.store;
  takes = c.take-held.ensures.takes;
})
    c.take-held.new.chair c.args.reading.now c.args.judged.now (ap (λ (h : ChairState Told RunSetting). h.number) c.take-held.ensures.now.now) c.requires.right

pub invariant_of-pass : goal.invariant_of-pass
invariant_of-pass g c = committed-pass c.args.self.now c.pass.inside.chair c.pass.inside.seat c.pass.inside.number c.pass.inside.reached _ _ c.args.pass.now c.take-held.result (record {
  store = store-now _ c.args.self.now c.self.view_is c.self.invariant;
  pass = c.pass.invariant;
  old_is = c.pass.view_is;
  here = c.requires.store;
  takes = c.take-held.ensures.takes;
})
    c.take-held.new.chair c.turn-turn.new.chair c.args.reading.now c.turn-turn.result c.take-held.new.chair.tries c.take-held.new.chair.found c.take-held.ensures.now.now c.turn-turn.ensures

pub returns : goal.returns
returns g c = committed-commits c.args.self.now c.pass.inside.chair c.pass.inside.seat c.pass.inside.number c.pass.inside.reached _ _ c.args.pass.now c.take-held.result (record {
  store = store-now _ c.args.self.now c.self.view_is c.self.invariant;
  pass = c.pass.invariant;
  old_is = c.pass.view_is;
  here = c.requires.store;
  takes = c.take-held.ensures.takes;
})
    c.take-held.new.chair c.turn-turn.new.chair c.args.reading.now c.turn-turn.result c.take-held.new.chair.tries c.take-held.new.chair.found c.take-held.ensures.now.now c.turn-turn.ensures c.take-held.ensures.now.tries
