use Rattle.std.proofs.Common.{arith, rules, subst, sym}
use Rattle.std.proofs.lemmas.Result.{err_from_is_err_and}
use Rattle.mz_units.specs.Named.{IsNamedList, named_list_of}
use Rattle.mz_rows.proofs.IdLemmas.{new_id-fault, new_id-new}
use Rattle.mz_units.proofs.NamedLemmas.{named-none, named-too_many, named-fault, named-repeated, named-more, named-all}
use Rattle.mz_units.proofs.named.read_named_list.Goals as goal

pub loop-row-init : goal.loop-row-init
loop-row-init c = named-none c.args.table.now c.in_ok-ids.ids c.in_ok-names.names.items c.in_ok-ids.ensures c.in_ok-names.ensures.items

pub returns-then-row-ge-MOST_ROWS-clause-answer : goal.returns-then-row-ge-MOST_ROWS-clause-answer
returns-then-row-ge-MOST_ROWS-clause-answer c = rw c.line-line.ensures (named-too_many c.args.table.now c.loop-row.ids c.loop-row.names.items c.loop-row.row c.loop-row.invariant (omega (arith, c.rows-row-end.ensures.rows)) (omega arith))

pub returns-in_err-named-clause-answer : goal.returns-in_err-named-clause-answer
returns-in_err-named-clause-answer c =
    let passed = err_from_is_err_and c.from_residual-in_err-named.result c.from_residual-in_err-named.ensures.1 in
    rw (passed.1, passed.2) (named-fault c.args.table.now c.loop-row.ids c.loop-row.names.items c.loop-row.row c.in_err-named.field-0.0 c.loop-row.invariant (omega (arith, c.rows-row-end.ensures.rows)) (omega arith) c.in_err-named.ensures.answer)

pub add_id-requires : goal.add_id-requires
add_id-requires c = omega (arith, c.loop-row.invariant.fit.few)

pub returns-in_err-add_id-clause-answer : goal.returns-in_err-add_id-clause-answer
returns-in_err-add_id-clause-answer c =
    let passed = err_from_is_err_and c.from_residual-in_err-add_id.result c.from_residual-in_err-add_id.ensures.1 in
    rw (passed.1, passed.2) (new_id-fault c.loop-row.ids c.in_ok-named.named.0 c.line-line.result c.in_err-add_id.field-0.0 (named_list_of c.args.table.now) c.in_err-add_id.ensures.answer
    (λ known. rw c.line-line.ensures (named-repeated c.args.table.now c.loop-row.ids c.loop-row.names.items c.loop-row.row c.in_ok-named.named c.loop-row.invariant (omega (arith, c.rows-row-end.ensures.rows)) (omega arith) c.in_ok-named.ensures.answer known)))

pub loop-row-preserved : goal.loop-row-preserved
loop-row-preserved c = named-more c.args.table.now c.loop-row.ids c.loop-row.names.items c.loop-row.row c.in_ok-named.named c.add_id.new.ids c.push.new.self.items c.loop-row.invariant (omega (arith, c.rows-row-end.ensures.rows)) (omega arith) c.in_ok-named.ensures.answer c.in_ok-named.ensures.within
    (new_id-new c.loop-row.ids c.in_ok-named.named.0 c.line-line.result c.in_ok-add_id.ensures.answer)
    c.in_ok-add_id.ensures.ids
    (search rules)

pub returns-clause-answer : goal.returns-clause-answer
returns-clause-answer c = named-all c.args.table.now c.loop-row.ids c.loop-row.names.items c.new.result c.loop-row.row c.loop-row.invariant (omega (arith, c.rows-row-end.ensures.rows)) c.new.ensures

pub returns-clause-fit : goal.returns-clause-fit
returns-clause-fit c = subst (IsNamedList c.loop-row.ids) (sym c.new.ensures) c.loop-row.invariant.fit
