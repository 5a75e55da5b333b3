use Rattle.std.proofs.Common.{◌+◌, ◌*◌, ap, arith, rules, sym, ◌∙◌}
use Rattle.std.proofs.lemmas.Result.{err_from_is_err_and}
use Rattle.mz_targets.specs.ZoneTargets.{zone_targets_of}
use Rattle.mz_rows.proofs.AnswerLemmas.{fault-is}
use Rattle.mz_targets.proofs.ZoneTargetLemmas.{targets-none, targets-too_many, targets-fault, targets-repeated, targets-more, targets-all, mark_of-lt}
use Rattle.mz_targets.proofs.zone_targets.read_zone_targets.Goals as goal

pub loop-row-init : goal.loop-row-init
loop-row-init c = targets-none c.args.zones.now c.args.features.now c.args.table.now c.in_ok-listed.listed.items c.in_ok-targets.targets.items _ (grind (arith, c.len.ensures.len, c.len-width.ensures.len)) (c.in_ok-listed.ensures.items_if_clones_equal (search rules)) c.in_ok-targets.ensures.items

pub returns-then-row-ge-MOST_ROWS-clause-answer : goal.returns-then-row-ge-MOST_ROWS-clause-answer
returns-then-row-ge-MOST_ROWS-clause-answer c = rw c.line.ensures (targets-too_many c.args.zones.now c.args.features.now c.args.table.now c.loop-row.listed.items c.loop-row.targets.items c.loop-row.row c.loop-row.invariant (omega (arith, c.rows-row-end.ensures.rows)) (omega arith))

pub returns-in_err-target-clause-answer : goal.returns-in_err-target-clause-answer
returns-in_err-target-clause-answer c =
    let passed = err_from_is_err_and c.from_residual-in_err-target.result c.from_residual-in_err-target.ensures.1 in
    rw (passed.1, passed.2) (fault-is c.in_err-target.field-0.0 (zone_targets_of c.args.zones.now c.args.features.now c.args.table.now)
    (targets-fault c.args.zones.now c.args.features.now c.args.table.now c.loop-row.listed.items c.loop-row.targets.items c.loop-row.row c.in_err-target.field-0.0 c.loop-row.invariant (omega (arith, c.rows-row-end.ensures.rows)) (omega arith) (sym c.in_err-target.ensures.answer)))

pub returns-then-index-clause-answer : goal.returns-then-index-clause-answer
returns-then-index-clause-answer c = rw c.line-then-index.ensures
    (targets-repeated c.args.zones.now c.args.features.now c.args.table.now c.loop-row.listed.items c.loop-row.targets.items c.loop-row.row c.in_ok-target.target _ c.index.result.now c.loop-row.invariant (omega (arith, c.rows-row-end.ensures.rows)) (omega arith) (sym c.in_ok-target.ensures.answer) c.in_ok-target.ensures.fit
    (ap (λ n. c.in_ok-target.target.zone * n + c.in_ok-target.target.feature) c.len-width.ensures.len)
    (sym c.if-index.true ∙ c.index.ensures))

pub loop-row-preserved : goal.loop-row-preserved
loop-row-preserved c =
    targets-more c.args.zones.now c.args.features.now c.args.table.now c.loop-row.listed.items c.loop-row.targets.items c.loop-row.row c.in_ok-target.target _ c.index.result.now _ c.loop-row.invariant (omega (arith, c.rows-row-end.ensures.rows)) (omega arith) (sym c.in_ok-target.ensures.answer) c.in_ok-target.ensures.fit
    (ap (λ n. c.in_ok-target.target.zone * n + c.in_ok-target.target.feature) c.len-width.ensures.len)
    (sym c.if-index.false ∙ c.index.ensures)
    (search rules)

pub returns-clause-answer : goal.returns-clause-answer
returns-clause-answer c = targets-all c.args.zones.now c.args.features.now c.args.table.now c.loop-row.listed.items c.loop-row.targets.items c.loop-row.row c.loop-row.invariant (omega (arith, c.rows-row-end.ensures.rows))

pub index-requires : goal.index-requires
index-requires c =
    let inside = mark_of-lt c.args.zones.now c.args.features.now c.args.table.now c.loop-row.listed.items c.loop-row.targets.items c.loop-row.row c.in_ok-target.target c.len-width.result c.loop-row.invariant c.in_ok-target.ensures.fit c.len-width.ensures.len in
    search (rules, inside)

pub index_mut-requires : goal.index_mut-requires
index_mut-requires c =
    let inside = mark_of-lt c.args.zones.now c.args.features.now c.args.table.now c.loop-row.listed.items c.loop-row.targets.items c.loop-row.row c.in_ok-target.target c.len-width.result c.loop-row.invariant c.in_ok-target.ensures.fit c.len-width.ensures.len in
    search (rules, inside)
