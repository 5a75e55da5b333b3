use Rattle.std.proofs.Common.{◌∙◌, ap}
use Rattle.mz_board.specs.Chair.{ChairState}
use Rattle.mz_store.specs.declared.told.Told.{Told}
use Rattle.mz_store.specs.RunSetting.{RunSetting}
use Rattle.mz_store.proofs.AppendLaws.{added-chair, appended-chair, entry-is, gains-within, grown-is, may-append, owes-move, zones-within}
use Rattle.mz_store.proofs.StoreLaws.{store-now}
use Rattle.mz_store.proofs.store.Store.add_entry.Goals as goal

pub append-requires-clause-may : goal.append-requires-clause-may
append-requires-clause-may c κs = may-append c.args.self.now c.args.chair.now c.args.held.now.kept.value c.args.judged.now c.apply_on-receipt.result.entry
    (record {
      store = store-now _ c.args.self.now c.self.view_is c.self.invariant;
      here = c.requires.store;
      setting = c.requires.setting;
      turn = c.requires.turn;
      kept = c.requires.kept;
      not_full = c.requires.not_full;
      seat = c.requires.seat.0;
      unit = c.requires.unit;
      next = c.requires.next;
      entry_is = entry-is c.args.held.now.kept.value _ c.args.judged.now.seat c.apply_on-receipt.result.entry c.deref_mut.ensures.value c.apply_on-receipt.ensures.entry;
    })
    _ (grown-is c.args.held.now.kept.value _ _ c.apply_on-receipt.result.entry c.deref_mut.ensures.value c.apply_on-receipt.ensures.kept)

pub store_changes-requires-clause-store : goal.store_changes-requires-clause-store
store_changes-requires-clause-store c = ap (λ (h : ChairState Told RunSetting). h.lock) (appended-chair c.args.self.now c.args.chair.now c.args.held.now.kept.value c.args.judged.now c.apply_on-receipt.result.entry
    (record {
      store = store-now _ c.args.self.now c.self.view_is c.self.invariant;
      here = c.requires.store;
      setting = c.requires.setting;
      turn = c.requires.turn;
      kept = c.requires.kept;
      not_full = c.requires.not_full;
      seat = c.requires.seat.0;
      unit = c.requires.unit;
      next = c.requires.next;
      entry_is = entry-is c.args.held.now.kept.value _ c.args.judged.now.seat c.apply_on-receipt.result.entry c.deref_mut.ensures.value c.apply_on-receipt.ensures.entry;
    })
    _ c.append.new.chair (grown-is c.args.held.now.kept.value _ _ c.apply_on-receipt.result.entry c.deref_mut.ensures.value c.apply_on-receipt.ensures.kept) c.append.ensures) ∙ c.requires.store

pub store_changes-requires-clause-zones : goal.store_changes-requires-clause-zones
store_changes-requires-clause-zones c = zones-within c.args.self.now c.args.chair.now c.args.held.now.kept.value c.args.judged.now c.apply_on-receipt.result.entry
    (record {
      store = store-now _ c.args.self.now c.self.view_is c.self.invariant;
      here = c.requires.store;
      setting = c.requires.setting;
      turn = c.requires.turn;
      kept = c.requires.kept;
      not_full = c.requires.not_full;
      seat = c.requires.seat.0;
      unit = c.requires.unit;
      next = c.requires.next;
      entry_is = entry-is c.args.held.now.kept.value _ c.args.judged.now.seat c.apply_on-receipt.result.entry c.deref_mut.ensures.value c.apply_on-receipt.ensures.entry;
    })

pub store_changes-requires-clause-gains : goal.store_changes-requires-clause-gains
store_changes-requires-clause-gains c = gains-within c.args.self.now c.args.chair.now c.args.held.now.kept.value c.args.judged.now c.apply_on-receipt.result.entry
    (record {
      store = store-now _ c.args.self.now c.self.view_is c.self.invariant;
      here = c.requires.store;
      setting = c.requires.setting;
      turn = c.requires.turn;
      kept = c.requires.kept;
      not_full = c.requires.not_full;
      seat = c.requires.seat.0;
      unit = c.requires.unit;
      next = c.requires.next;
      entry_is = entry-is c.args.held.now.kept.value _ c.args.judged.now.seat c.apply_on-receipt.result.entry c.deref_mut.ensures.value c.apply_on-receipt.ensures.entry;
    })
    c.args.reading.now c.requires.gains

pub store_changes-requires-clause-owes : goal.store_changes-requires-clause-owes
store_changes-requires-clause-owes c = owes-move c.args.self.now c.args.chair.now c.args.held.now.kept.value c.args.judged.now c.apply_on-receipt.result.entry
    (record {
      store = store-now _ c.args.self.now c.self.view_is c.self.invariant;
      here = c.requires.store;
      setting = c.requires.setting;
      turn = c.requires.turn;
      kept = c.requires.kept;
      not_full = c.requires.not_full;
      seat = c.requires.seat.0;
      unit = c.requires.unit;
      next = c.requires.next;
      entry_is = entry-is c.args.held.now.kept.value _ c.args.judged.now.seat c.apply_on-receipt.result.entry c.deref_mut.ensures.value c.apply_on-receipt.ensures.entry;
    })
    _ c.append.new.chair (grown-is c.args.held.now.kept.value _ _ c.apply_on-receipt.result.entry c.deref_mut.ensures.value c.apply_on-receipt.ensures.kept) c.append.ensures

pub returns-clause-chair : goal.returns-clause-chair
returns-clause-chair c = added-chair c.args.self.now c.args.chair.now c.args.held.now.kept.value c.args.judged.now c.apply_on-receipt.result.entry
    (record {
      store = store-now _ c.args.self.now c.self.view_is c.self.invariant;
      here = c.requires.store;
      setting = c.requires.setting;
      turn = c.requires.turn;
      kept = c.requires.kept;
      not_full = c.requires.not_full;
      seat = c.requires.seat.0;
      unit = c.requires.unit;
      next = c.requires.next;
      entry_is = entry-is c.args.held.now.kept.value _ c.args.judged.now.seat c.apply_on-receipt.result.entry c.deref_mut.ensures.value c.apply_on-receipt.ensures.entry;
    })
    _ c.append.new.chair c.store_changes.new.chair (grown-is c.args.held.now.kept.value _ _ c.apply_on-receipt.result.entry c.deref_mut.ensures.value c.apply_on-receipt.ensures.kept) c.append.ensures c.store_changes.ensures
