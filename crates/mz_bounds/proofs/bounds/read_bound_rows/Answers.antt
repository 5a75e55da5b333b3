use Rattle.std.proofs.Common.{arith, rules, sym}
use Rattle.std.proofs.lemmas.Result.{err_from_is_err_and}
use Rattle.mz_rows.proofs.AnswerLemmas.{fault-is}
use Rattle.mz_bounds.specs.Bounds.{bound_rows}
use Rattle.mz_bounds.proofs.BoundLemmas.{bounds-all, bounds-fault, bounds-more, bounds-none, bounds-too_many}
use Rattle.mz_bounds.proofs.bounds.read_bound_rows.Goals as goal

pub loop-row-init : goal.loop-row-init
loop-row-init c = bounds-none c.args.units.now c.args.table.now c.in_ok-rows.rows.items c.in_ok-rows.ensures.items

pub returns-then-row-ge-MOST_ROWS-clause-answer : goal.returns-then-row-ge-MOST_ROWS-clause-answer
returns-then-row-ge-MOST_ROWS-clause-answer c = rw c.line.ensures (bounds-too_many c.args.units.now c.args.table.now c.loop-row.rows.items c.loop-row.row c.loop-row.invariant (omega (arith, c.rows-row-end.ensures.rows)) (omega arith))

pub returns-in_err-bound-clause-answer : goal.returns-in_err-bound-clause-answer
returns-in_err-bound-clause-answer c =
    let passed = err_from_is_err_and c.from_residual-in_err-bound.result c.from_residual-in_err-bound.ensures.1 in
    rw (passed.1, passed.2) (fault-is c.in_err-bound.field-0.0 (bound_rows c.args.units.now c.args.table.now)
    (bounds-fault c.args.units.now c.args.table.now c.loop-row.rows.items c.loop-row.row c.in_err-bound.field-0.0 c.loop-row.invariant (omega (arith, c.rows-row-end.ensures.rows)) (omega arith) (sym c.in_err-bound.ensures.answer)))

pub loop-row-preserved : goal.loop-row-preserved
loop-row-preserved c =
    bounds-more c.args.units.now c.args.table.now c.loop-row.rows.items c.push.new.self.items c.loop-row.row c.in_ok-bound.bound c.loop-row.invariant (omega (arith, c.rows-row-end.ensures.rows)) (omega arith) (sym c.in_ok-bound.ensures.answer) c.in_ok-bound.ensures.low c.in_ok-bound.ensures.high c.in_ok-bound.ensures.small
    (search rules)

pub returns-clause-answer : goal.returns-clause-answer
returns-clause-answer c = bounds-all c.args.units.now c.args.table.now c.loop-row.rows.items c.loop-row.row c.loop-row.invariant (omega (arith, c.rows-row-end.ensures.rows))
