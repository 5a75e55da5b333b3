use Rattle.std.proofs.Common.{None, Some, [], ap, refl, ◌++◌, ◌∷◌}
use Rattle.mz_board.specs.Chair.{ChairState}
use Rattle.mz_store.specs.declared.told.Told.{Told}
use Rattle.mz_store.specs.declared.verdict.Verdict.TheVariants.{Again, Full}
use Rattle.mz_store.specs.RunSetting.{RunSetting}
use Rattle.mz_store.specs.Told.{told_all}
use Rattle.mz_store.proofs.StoreLaws.{store-now}
use Rattle.mz_store.proofs.TurnLaws.{again-answer, decided-answer, full-answer, full-through, kept-through, left-alone, left-grown, may-apply, open-through, overtaken-through, shows-gains}
use Rattle.mz_store.proofs.store.Store.turn.Goals as goal

pub returns-then-length-self : goal.returns-then-length-self
returns-then-length-self c = left-alone c.args.self.now c.args.chair.now c.args.held.kept.value c.args.reading.now c.args.judged.now (record {
  store = store-now _ c.args.self.now c.self.view_is c.self.invariant;
  here = c.requires.store;
  setting = c.requires.setting;
  turn = c.requires.turn;
  reads = c.requires.reads;
  loaded = c.requires.loaded;
  kept = kept-through c.args.held.kept.value _ c.deref.ensures c.length.ensures.kept;
  right = c.requires.right;
})
    c.end_turn.new.chair Full c.end_turn.result refl (full-answer c.args.self.now c.args.chair.now c.args.held.kept.value c.args.reading.now c.args.judged.now (record {
      store = store-now _ c.args.self.now c.self.view_is c.self.invariant;
      here = c.requires.store;
      setting = c.requires.setting;
      turn = c.requires.turn;
      reads = c.requires.reads;
      loaded = c.requires.loaded;
      kept = kept-through c.args.held.kept.value _ c.deref.ensures c.length.ensures.kept;
      right = c.requires.right;
    })
    (full-through c.args.held.kept.value _ c.args.self.now _ c.length.result c.deref.ensures c.self.view_is c.length.ensures.count c.if-length-self.true))
    c.end_turn.ensures.verdict c.end_turn.ensures.length c.end_turn.ensures.number c.end_turn.ensures.chair

pub returns-in-Some : goal.returns-in-Some
returns-in-Some c = left-alone c.args.self.now c.args.chair.now c.args.held.kept.value c.args.reading.now c.args.judged.now (record {
  store = store-now _ c.args.self.now c.self.view_is c.self.invariant;
  here = c.requires.store;
  setting = c.requires.setting;
  turn = c.requires.turn;
  reads = c.requires.reads;
  loaded = c.requires.loaded;
  kept = kept-through c.args.held.kept.value _ c.deref.ensures c.length.ensures.kept;
  right = c.requires.right;
})
    c.end_turn-in-Some.new.chair (Again c.in-Some.position) c.end_turn-in-Some.result refl (again-answer c.args.self.now c.args.chair.now c.args.held.kept.value c.args.reading.now c.args.judged.now (record {
      store = store-now _ c.args.self.now c.self.view_is c.self.invariant;
      here = c.requires.store;
      setting = c.requires.setting;
      turn = c.requires.turn;
      reads = c.requires.reads;
      loaded = c.requires.loaded;
      kept = kept-through c.args.held.kept.value _ c.deref.ensures c.length.ensures.kept;
      right = c.requires.right;
    })
    c.in-Some.position (open-through c.args.held.kept.value _ c.args.self.now _ c.length.result c.deref.ensures c.self.view_is c.length.ensures.count c.if-length-self.false)
    (overtaken-through c.args.held.kept.value _ c.args.reading.now c.touched_since.result (Some c.in-Some.position) c.deref-2.ensures c.touched_since.ensures c.in-Some.is))
    c.end_turn-in-Some.ensures.verdict c.end_turn-in-Some.ensures.length c.end_turn-in-Some.ensures.number c.end_turn-in-Some.ensures.chair

pub add_entry-receipt-requires-clause-next : goal.add_entry-receipt-requires-clause-next
add_entry-receipt-requires-clause-next c = may-apply c.args.self.now c.args.chair.now c.args.held.kept.value c.args.reading.now c.args.judged.now (record {
  store = store-now _ c.args.self.now c.self.view_is c.self.invariant;
  here = c.requires.store;
  setting = c.requires.setting;
  turn = c.requires.turn;
  reads = c.requires.reads;
  loaded = c.requires.loaded;
  kept = kept-through c.args.held.kept.value _ c.deref.ensures c.length.ensures.kept;
  right = c.requires.right;
})
    (overtaken-through c.args.held.kept.value _ c.args.reading.now c.touched_since.result None c.deref-2.ensures c.touched_since.ensures c.in_default.is)

pub add_entry-receipt-requires-clause-gains : goal.add_entry-receipt-requires-clause-gains
add_entry-receipt-requires-clause-gains c = shows-gains c.args.self.now c.args.chair.now c.args.held.kept.value c.args.reading.now c.args.judged.now (record {
  store = store-now _ c.args.self.now c.self.view_is c.self.invariant;
  here = c.requires.store;
  setting = c.requires.setting;
  turn = c.requires.turn;
  reads = c.requires.reads;
  loaded = c.requires.loaded;
  kept = kept-through c.args.held.kept.value _ c.deref.ensures c.length.ensures.kept;
  right = c.requires.right;
})
    (overtaken-through c.args.held.kept.value _ c.args.reading.now c.touched_since.result None c.deref-2.ensures c.touched_since.ensures c.in_default.is)

pub end_turn-requires-2-clause-taken : goal.end_turn-requires-2-clause-taken
end_turn-requires-2-clause-taken c = (told_all c.args.held.kept.value.setting (c.args.held.kept.value.journal ++ c.add_entry-receipt.result.entry ∷ []), ap (λ (h : ChairState Told RunSetting). h.taken) c.add_entry-receipt.ensures.chair)

pub returns : goal.returns
returns c = left-grown c.args.self.now c.args.chair.now c.args.held.kept.value c.args.reading.now c.args.judged.now (record {
  store = store-now _ c.args.self.now c.self.view_is c.self.invariant;
  here = c.requires.store;
  setting = c.requires.setting;
  turn = c.requires.turn;
  reads = c.requires.reads;
  loaded = c.requires.loaded;
  kept = kept-through c.args.held.kept.value _ c.deref.ensures c.length.ensures.kept;
  right = c.requires.right;
})
    c.add_entry-receipt.new.chair c.end_turn-2.new.chair _ c.add_entry-receipt.result c.end_turn-2.result (decided-answer c.args.self.now c.args.chair.now c.args.held.kept.value c.args.reading.now c.args.judged.now (record {
      store = store-now _ c.args.self.now c.self.view_is c.self.invariant;
      here = c.requires.store;
      setting = c.requires.setting;
      turn = c.requires.turn;
      reads = c.requires.reads;
      loaded = c.requires.loaded;
      kept = kept-through c.args.held.kept.value _ c.deref.ensures c.length.ensures.kept;
      right = c.requires.right;
    })
    c.add_entry-receipt.result (open-through c.args.held.kept.value _ c.args.self.now _ c.length.result c.deref.ensures c.self.view_is c.length.ensures.count c.if-length-self.false)
    (overtaken-through c.args.held.kept.value _ c.args.reading.now c.touched_since.result None c.deref-2.ensures c.touched_since.ensures c.in_default.is)
    c.add_entry-receipt.ensures.position c.add_entry-receipt.ensures.entry)
    c.add_entry-receipt.ensures.kept c.add_entry-receipt.ensures.chair c.end_turn-2.ensures.verdict c.end_turn-2.ensures.length c.end_turn-2.ensures.number c.end_turn-2.ensures.chair
