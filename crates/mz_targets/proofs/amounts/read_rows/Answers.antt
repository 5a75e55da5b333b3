use Rattle.std.proofs.Common.{arith, rules, sym}
use Rattle.std.proofs.lemmas.Result.{err_from_is_err_and}
use Rattle.mz_targets.specs.Amounts.{amount_rows}
use Rattle.mz_rows.proofs.AnswerLemmas.{fault-is}
use Rattle.mz_targets.proofs.AmountLemmas.{amounts-none, amounts-too_many, amounts-fault, amounts-more, amounts-all}
use Rattle.mz_targets.proofs.amounts.read_rows.Goals as goal

pub loop-row-init : goal.loop-row-init
loop-row-init c = amounts-none c.args.units.now c.args.features.now c.args.table.now c.in_ok-rows.rows.items c.in_ok-rows.ensures.items

pub returns-then-row-ge-MOST_ROWS-clause-answer : goal.returns-then-row-ge-MOST_ROWS-clause-answer
returns-then-row-ge-MOST_ROWS-clause-answer c = rw c.line.ensures (amounts-too_many c.args.units.now c.args.features.now c.args.table.now c.loop-row.rows.items c.loop-row.row c.loop-row.invariant (omega (arith, c.rows-row-end.ensures.rows)) (omega arith))

pub returns-in_err-amount-clause-answer : goal.returns-in_err-amount-clause-answer
returns-in_err-amount-clause-answer c =
    let passed = err_from_is_err_and c.from_residual-in_err-amount.result c.from_residual-in_err-amount.ensures.1 in
    rw (passed.1, passed.2) (fault-is c.in_err-amount.field-0.0 (amount_rows c.args.units.now c.args.features.now c.args.table.now)
    (amounts-fault c.args.units.now c.args.features.now c.args.table.now c.loop-row.rows.items c.loop-row.row c.in_err-amount.field-0.0 c.loop-row.invariant (omega (arith, c.rows-row-end.ensures.rows)) (omega arith) (sym c.in_err-amount.ensures.answer)))

pub loop-row-preserved : goal.loop-row-preserved
loop-row-preserved c =
    amounts-more c.args.units.now c.args.features.now c.args.table.now c.loop-row.rows.items c.loop-row.row c.in_ok-amount.amount _ c.loop-row.invariant (omega (arith, c.rows-row-end.ensures.rows)) (omega arith) (sym c.in_ok-amount.ensures.answer) c.in_ok-amount.ensures.fit (search rules)

pub returns-clause-answer : goal.returns-clause-answer
returns-clause-answer c = amounts-all c.args.units.now c.args.features.now c.args.table.now c.loop-row.rows.items c.loop-row.row c.loop-row.invariant (omega (arith, c.rows-row-end.ensures.rows))
