use Rattle.std.proofs.Common.{arith, refl, rules, sym, ◌∙◌}
use Rattle.std.proofs.lemmas.Option.{get_or_from_slice_get}
use Rattle.std.proofs.lemmas.Nat.{one_shl}
use Rattle.std.proofs.lemmas.Result.{err_from_is_err_and}
use Rattle.mz_units.specs.Locks.{locked_sets_of}
use Rattle.mz_rows.proofs.AnswerLemmas.{fault-is}
use Rattle.mz_units.proofs.LockLemmas.{locks-none, locks-fault, locks-repeated, locks-conflict, locks-more, locks-all, allowed-is, outside-is}
use Rattle.mz_units.proofs.locks.read_locks.Goals as goal

pub returns-in_err-lock-clause-answer : goal.returns-in_err-lock-clause-answer
returns-in_err-lock-clause-answer c =
    let passed = err_from_is_err_and c.from_residual-in_err-lock.result c.from_residual-in_err-lock.ensures.1 in
    rw (passed.1, passed.2) (fault-is c.in_err-lock.field-0.0 (locked_sets_of c.args.units.now c.args.zones.now c.args.allowed.now c.args.table.now)
    (locks-fault c.args.units.now c.args.zones.now c.args.allowed.now c.args.table.now c.loop-row.locked.items c.loop-row.sets.items c.loop-row.row c.in_err-lock.field-0.0 c.loop-row.invariant (omega (arith, c.rows-row-end.ensures.rows)) (sym c.in_err-lock.ensures.answer)))

pub loop-row-init : goal.loop-row-init
loop-row-init c =
    locks-none c.args.units.now c.args.zones.now c.args.allowed.now c.args.table.now c.in_ok-locked.locked.items c.in_ok-sets.sets.items _ refl (c.in_ok-locked.ensures.items_if_clones_equal (search rules)) (c.in_ok-sets.ensures.items_if_clones_equal (search rules))

pub returns-then-index-clause-answer : goal.returns-then-index-clause-answer
returns-then-index-clause-answer c = rw c.line.ensures
    (locks-repeated c.args.units.now c.args.zones.now c.args.allowed.now c.args.table.now c.loop-row.locked.items c.loop-row.sets.items c.loop-row.row c.in_ok-lock.lock c.index.result.now c.loop-row.invariant (omega (arith, c.rows-row-end.ensures.rows)) (sym c.in_ok-lock.ensures.answer) (omega (arith, c.in_ok-lock.ensures.unit, c.requires.allowed)) (sym c.if-index.true ∙ c.index.ensures))

pub returns-then-allowed-unit-ne1-clause-answer : goal.returns-then-allowed-unit-ne1-clause-answer
returns-then-allowed-unit-ne1-clause-answer c = rw c.line-then-allowed-unit-ne1.ensures
    (locks-conflict c.args.units.now c.args.zones.now c.args.allowed.now c.args.table.now c.loop-row.locked.items c.loop-row.sets.items c.loop-row.row c.in_ok-lock.lock c.index.result.now c.id.result c.loop-row.invariant (omega (arith, c.rows-row-end.ensures.rows)) (sym c.in_ok-lock.ensures.answer) (omega (arith, c.in_ok-lock.ensures.unit, c.requires.allowed)) (sym c.if-index.false ∙ c.index.ensures)
    (outside-is c.args.allowed.now c.in_ok-lock.lock c.if-allowed-unit-ne1.true) (get_or_from_slice_get c.args.units.now c.in_ok-lock.lock.0 c.id.result 0 c.id.ensures))

pub loop-row-preserved : goal.loop-row-preserved
loop-row-preserved c =
    locks-more c.args.units.now c.args.zones.now c.args.allowed.now c.args.table.now c.loop-row.locked.items c.loop-row.sets.items c.loop-row.row c.in_ok-lock.lock c.index.result.now _ c.loop-row.invariant (omega (arith, c.rows-row-end.ensures.rows)) (sym c.in_ok-lock.ensures.answer) (omega (arith, c.in_ok-lock.ensures.unit, c.requires.allowed)) c.in_ok-lock.ensures.zone (sym c.if-index.false ∙ c.index.ensures)
    (allowed-is c.args.allowed.now c.in_ok-lock.lock c.if-allowed-unit-ne1.false) (one_shl c.in_ok-lock.lock.1 64 (omega (arith, c.in_ok-lock.ensures.zone, c.requires.zones)))

pub returns-clause-answer : goal.returns-clause-answer
returns-clause-answer c = locks-all c.args.units.now c.args.zones.now c.args.allowed.now c.args.table.now c.loop-row.locked.items c.loop-row.sets.items c.loop-row.row c.loop-row.invariant (omega (arith, c.rows-row-end.ensures.rows))
