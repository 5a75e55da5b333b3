use Rattle.std.proofs.Common.{arith, rules}
use Rattle.std.proofs.lemmas.Result.{err_from_is_err_and}
use Rattle.mz_units.specs.UnitRows.{units_of}
use Rattle.mz_rows.proofs.IdLemmas.{new_id-fault, new_id-new}
use Rattle.mz_units.proofs.UnitLemmas.{units-none, units-too_many, units-fault, units-repeated, units-more, units-all}
use Rattle.mz_units.proofs.units.read_units.Goals as goal

pub loop-row-init : goal.loop-row-init
loop-row-init c = units-none c.len-width.result c.args.table.now c.in_ok-ids.ids c.in_ok-unit_costs.unit_costs.items c.in_ok-ids.ensures c.in_ok-unit_costs.ensures.items

pub returns-then-row-ge-MOST_ROWS-clause-answer : goal.returns-then-row-ge-MOST_ROWS-clause-answer
returns-then-row-ge-MOST_ROWS-clause-answer c = rw c.line-line.ensures (units-too_many c.len-width.result c.args.table.now c.loop-row.ids c.loop-row.unit_costs.items c.loop-row.row c.loop-row.invariant (omega (arith, c.rows-row-end.ensures.rows)) (omega arith))

pub returns-in_err-unit-clause-answer : goal.returns-in_err-unit-clause-answer
returns-in_err-unit-clause-answer c =
    let passed = err_from_is_err_and c.from_residual-in_err-unit.result c.from_residual-in_err-unit.ensures.1 in
    rw (passed.1, passed.2) (units-fault c.len-width.result c.args.table.now c.loop-row.ids c.loop-row.unit_costs.items c.loop-row.row c.in_err-unit.field-0.0 c.loop-row.invariant (omega (arith, c.rows-row-end.ensures.rows)) (omega arith) c.in_err-unit.ensures.answer)

pub returns-in_err-add_id-clause-answer : goal.returns-in_err-add_id-clause-answer
returns-in_err-add_id-clause-answer c =
    let passed = err_from_is_err_and c.from_residual-in_err-add_id.result c.from_residual-in_err-add_id.ensures.1 in
    rw (passed.1, passed.2) (new_id-fault c.loop-row.ids c.in_ok-unit.unit.0 c.line-line.result c.in_err-add_id.field-0.0 (units_of c.args.table.now) c.in_err-add_id.ensures.answer
    (λ known. rw c.line-line.ensures (units-repeated c.len-width.result c.args.table.now c.loop-row.ids c.loop-row.unit_costs.items c.loop-row.row c.in_ok-unit.unit c.loop-row.invariant (omega (arith, c.rows-row-end.ensures.rows)) (omega arith) c.in_ok-unit.ensures.answer known)))

pub loop-row-preserved : goal.loop-row-preserved
loop-row-preserved c = units-more c.len-width.result c.args.table.now c.loop-row.ids c.loop-row.unit_costs.items c.loop-row.row c.in_ok-unit.unit c.add_id.new.ids c.extend_from_slice.new.self.items c.loop-row.invariant (omega (arith, c.rows-row-end.ensures.rows)) (omega arith) c.in_ok-unit.ensures.answer c.in_ok-unit.ensures.within c.in_ok-unit.ensures.costs c.in_ok-unit.ensures.small
    (new_id-new c.loop-row.ids c.in_ok-unit.unit.0 c.line-line.result c.in_ok-add_id.ensures.answer)
    c.in_ok-add_id.ensures.ids
    (search rules)

pub returns-clause-answer : goal.returns-clause-answer
returns-clause-answer c = units-all c.len-width.result c.args.table.now c.loop-row.ids c.loop-row.unit_costs.items c.new.result c.loop-row.row c.loop-row.invariant (omega (arith, c.rows-row-end.ensures.rows)) c.new.ensures
