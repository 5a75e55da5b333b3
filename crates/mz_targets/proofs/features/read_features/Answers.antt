use Rattle.std.proofs.Common.{arith, rules}
use Rattle.std.proofs.lemmas.Result.{err_from_is_err_and}
use Rattle.mz_targets.specs.Features.{features_of}
use Rattle.mz_rows.proofs.IdLemmas.{new_id-fault, new_id-new}
use Rattle.mz_targets.proofs.FeatureLemmas.{features-none, features-too_many, features-fault, features-repeated, features-more, features-all}
use Rattle.mz_targets.proofs.features.read_features.Goals as goal

pub loop-row-init : goal.loop-row-init
loop-row-init c = features-none c.args.table.now c.in_ok-ids.ids c.in_ok-names.names.items c.in_ok-rows.rows.items c.in_ok-ids.ensures c.in_ok-names.ensures.items c.in_ok-rows.ensures.items

pub returns-then-row-ge-MOST_ROWS-clause-answer : goal.returns-then-row-ge-MOST_ROWS-clause-answer
returns-then-row-ge-MOST_ROWS-clause-answer c = rw c.line-line.ensures (features-too_many c.args.table.now c.loop-row.ids c.loop-row.names.items c.loop-row.rows.items c.loop-row.row c.loop-row.invariant (omega (arith, c.rows-row-end.ensures.rows)) (omega arith))

pub returns-in_err-read-clause-answer : goal.returns-in_err-read-clause-answer
returns-in_err-read-clause-answer c =
    let passed = err_from_is_err_and c.from_residual-in_err-read.result c.from_residual-in_err-read.ensures.1 in
    rw (passed.1, passed.2) (features-fault c.args.table.now c.loop-row.ids c.loop-row.names.items c.loop-row.rows.items c.loop-row.row c.in_err-read.field-0.0 c.loop-row.invariant (omega (arith, c.rows-row-end.ensures.rows)) (omega arith) c.in_err-read.ensures.answer)

pub add_id-requires : goal.add_id-requires
add_id-requires c = omega (arith, c.loop-row.invariant.fit.few)

pub returns-in_err-add_id-clause-answer : goal.returns-in_err-add_id-clause-answer
returns-in_err-add_id-clause-answer c =
    let passed = err_from_is_err_and c.from_residual-in_err-add_id.result c.from_residual-in_err-add_id.ensures.1 in
    rw (passed.1, passed.2) (new_id-fault c.loop-row.ids c.in_ok-read.read.0 c.line-line.result c.in_err-add_id.field-0.0 (features_of c.args.table.now) c.in_err-add_id.ensures.answer
    (λ known. rw c.line-line.ensures (features-repeated c.args.table.now c.loop-row.ids c.loop-row.names.items c.loop-row.rows.items c.loop-row.row c.in_ok-read.read c.loop-row.invariant (omega (arith, c.rows-row-end.ensures.rows)) (omega arith) c.in_ok-read.ensures.answer known)))

pub loop-row-preserved : goal.loop-row-preserved
loop-row-preserved c = features-more c.args.table.now c.loop-row.ids c.loop-row.names.items c.loop-row.rows.items c.loop-row.row c.in_ok-read.read c.add_id.new.ids c.push-in-loop-row.new.self.items c.push.new.self.items c.loop-row.invariant (omega (arith, c.rows-row-end.ensures.rows)) (omega arith) c.in_ok-read.ensures.answer c.in_ok-read.ensures.within c.in_ok-read.ensures.fit
    (new_id-new c.loop-row.ids c.in_ok-read.read.0 c.line-line.result c.in_ok-add_id.ensures.answer)
    c.in_ok-add_id.ensures.ids
    (search rules)
    (search rules)

pub returns-clause-answer : goal.returns-clause-answer
returns-clause-answer c = features-all c.args.table.now c.loop-row.ids c.loop-row.names.items c.new.result c.loop-row.rows.items c.new-2.result c.loop-row.row c.loop-row.invariant (omega (arith, c.rows-row-end.ensures.rows)) c.new.ensures c.new-2.ensures
