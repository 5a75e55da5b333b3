use Rattle.std.proofs.Common.{ℕ, ◌+◌, ◌*◌, List, set, get_or, Option, Some, map, unwrap_or, ap, arith, rules, sym, subst, ◌∙◌}
use Rattle.std.proofs.lemmas.Result.{err_from_is_err_and}
use Rattle.mz_rows.proofs.AnswerLemmas.{fault-is}
use Rattle.mz_bounds.specs.ZoneBounds.{zone_bounds_of}
use Rattle.mz_bounds.proofs.ZoneBoundLemmas.{AreListedSoFar, costs-fit, costs-listed, listed-fault, listed-more, listed-none, listed-repeated}
use Rattle.mz_bounds.proofs.zone_bounds.read_zone_bounds.Goals as goal

pub loop-row-init : goal.loop-row-init
loop-row-init c = listed-none c.args.zones.now c.args.table.now c.in_ok-listed.listed.items _ (ap (λ n. n * n) c.len-width.ensures.len) (c.in_ok-listed.ensures.items_if_clones_equal (search rules))

pub returns-in_err-bound-clause-answer : goal.returns-in_err-bound-clause-answer
returns-in_err-bound-clause-answer c =
    let passed = err_from_is_err_and c.from_residual-in_err-bound.result c.from_residual-in_err-bound.ensures.1 in
    rw (passed.1, passed.2) (fault-is c.in_err-bound.field-0.0 (zone_bounds_of c.args.zones.now c.args.table.now)
    (listed-fault c.args.zones.now c.args.table.now c.loop-row.listed.items c.loop-row.row c.in_err-bound.field-0.0 c.loop-row.invariant (omega (arith, c.rows-row-end.ensures.rows)) (sym c.in_err-bound.ensures.answer)))

pub returns-then-is_another-clause-answer : goal.returns-then-is_another-clause-answer
returns-then-is_another-clause-answer c = rw c.line.ensures
    (listed-repeated c.args.zones.now c.args.table.now c.loop-row.listed.items c.loop-row.row c.in_ok-bound.bound c.index.result.now c.loop-row.invariant (omega (arith, c.rows-row-end.ensures.rows)) (sym c.in_ok-bound.ensures.answer) c.in_ok-bound.ensures.low c.in_ok-bound.ensures.high
    (c.index.ensures ∙ ap (λ n. get_or c.loop-row.listed.items (c.in_ok-bound.bound.0 * n + c.in_ok-bound.bound.1) c.index.result.now) c.len-width.ensures.len)
    (sym c.is_another.ensures ∙ c.if-is_another.true))

pub loop-row-preserved : goal.loop-row-preserved
loop-row-preserved c =
    subst (λ n. AreListedSoFar c.args.zones.now c.args.table.now (set (set c.loop-row.listed.items (c.in_ok-bound.bound.0 * n + c.in_ok-bound.bound.1) (Some c.in_ok-bound.bound.2)) (c.in_ok-bound.bound.1 * n + c.in_ok-bound.bound.0) (Some c.in_ok-bound.bound.2)) (c.loop-row.row + 1)) (sym c.len-width.ensures.len)
    (listed-more c.args.zones.now c.args.table.now c.loop-row.listed.items c.loop-row.row c.in_ok-bound.bound c.index.result.now c.loop-row.invariant (omega (arith, c.rows-row-end.ensures.rows)) (sym c.in_ok-bound.ensures.answer) c.in_ok-bound.ensures.low c.in_ok-bound.ensures.high c.in_ok-bound.ensures.small
    (c.index.ensures ∙ ap (λ n. get_or c.loop-row.listed.items (c.in_ok-bound.bound.0 * n + c.in_ok-bound.bound.1) c.index.result.now) c.len-width.ensures.len)
    (sym c.is_another.ensures ∙ c.if-is_another.false))

pub returns-clause-answer : goal.returns-clause-answer
returns-clause-answer c =
    costs-listed c.args.zones.now c.args.table.now c.loop-row.listed.items c.loop-row.row c.in_ok-costs.costs.items c.loop-row.invariant (omega (arith, c.rows-row-end.ensures.rows)) (c.in_ok-costs.ensures ∙ ap (λ (listed : List (Option ℕ)). map (λ cost. unwrap_or cost 0) listed) c.as_slice.ensures.value)

pub returns-clause-fit : goal.returns-clause-fit
returns-clause-fit c =
    costs-fit c.args.zones.now c.args.table.now c.loop-row.listed.items c.loop-row.row c.in_ok-costs.costs.items c.loop-row.invariant (c.in_ok-costs.ensures ∙ ap (λ (listed : List (Option ℕ)). map (λ cost. unwrap_or cost 0) listed) c.as_slice.ensures.value)
