use Rattle.std.proofs.Common.{◌+◌, ◌*◌, ap, arith, rules, sym, ◌∙◌}
use Rattle.std.proofs.lemmas.Result.{err_from_is_err_and}
use Rattle.mz_rows.specs.ByZone.{by_zone_of}
use Rattle.mz_rows.proofs.AnswerLemmas.{fault-is}
use Rattle.mz_rows.proofs.ByZoneLemmas.{numbers-none, numbers-fault, numbers-repeated, numbers-more, numbers-all}
use Rattle.mz_rows.proofs.by_zone.read_by_zone.Goals as goal

pub loop-row-init : goal.loop-row-init
loop-row-init c = numbers-none c.args.zones.now c.args.things.now c.args.table.now c.in_ok-listed.listed.items c.in_ok-numbers.numbers.items _ (grind (arith, c.len.ensures.len, c.len-width.ensures.len)) (c.in_ok-listed.ensures.items_if_clones_equal (search rules)) (c.in_ok-numbers.ensures.items_if_clones_equal (search rules))

pub returns-in_err-zone_number-clause-answer : goal.returns-in_err-zone_number-clause-answer
returns-in_err-zone_number-clause-answer c =
    let passed = err_from_is_err_and c.from_residual-in_err-zone_number.result c.from_residual-in_err-zone_number.ensures.1 in
    rw (passed.1, passed.2) (fault-is c.in_err-zone_number.field-0.0 (by_zone_of c.args.zones.now c.args.things.now c.args.table.now)
    (numbers-fault c.args.zones.now c.args.things.now c.args.table.now c.loop-row.listed.items c.loop-row.numbers.items c.loop-row.row c.in_err-zone_number.field-0.0 c.loop-row.invariant (omega (arith, c.rows-row-end.ensures.rows)) (sym c.in_err-zone_number.ensures.answer)))

pub returns-then-index-clause-answer : goal.returns-then-index-clause-answer
returns-then-index-clause-answer c = rw c.line.ensures
    (numbers-repeated c.args.zones.now c.args.things.now c.args.table.now c.loop-row.listed.items c.loop-row.numbers.items c.loop-row.row c.in_ok-zone_number.zone_number _ c.index.result.now c.loop-row.invariant (omega (arith, c.rows-row-end.ensures.rows)) (sym c.in_ok-zone_number.ensures.answer) c.in_ok-zone_number.ensures.zone c.in_ok-zone_number.ensures.thing
    (ap (λ n. c.in_ok-zone_number.zone_number.0 * n + c.in_ok-zone_number.zone_number.1) c.len-width.ensures.len)
    (sym c.if-index.true ∙ c.index.ensures))

pub loop-row-preserved : goal.loop-row-preserved
loop-row-preserved c =
    numbers-more c.args.zones.now c.args.things.now c.args.table.now c.loop-row.listed.items c.loop-row.numbers.items c.loop-row.row c.in_ok-zone_number.zone_number _ c.index.result.now c.loop-row.invariant (omega (arith, c.rows-row-end.ensures.rows)) (sym c.in_ok-zone_number.ensures.answer) c.in_ok-zone_number.ensures.zone c.in_ok-zone_number.ensures.thing c.in_ok-zone_number.ensures.small
    (ap (λ n. c.in_ok-zone_number.zone_number.0 * n + c.in_ok-zone_number.zone_number.1) c.len-width.ensures.len)
    (sym c.if-index.false ∙ c.index.ensures)

pub returns-clause-answer : goal.returns-clause-answer
returns-clause-answer c = numbers-all c.args.zones.now c.args.things.now c.args.table.now c.loop-row.listed.items c.loop-row.numbers.items c.loop-row.row c.loop-row.invariant (omega (arith, c.rows-row-end.ensures.rows))
