use Rattle.std.proofs.Common.{◌≡◌, ◌<◌, ◌≤◌, ◌^◌, arith, length, rules, subst, sym}
use Rattle.std.specs.List.{All, filter}
use Rattle.std.proofs.lemmas.List.Elements.{filter_from_retain}
use Rattle.std.proofs.lemmas.Result.{err_from_is_err_and}
use Rattle.mz_num.specs.Limits.{greatest_quantity}
use Rattle.mz_rows.proofs.AddedLaws.{All-filter}
use Rattle.mz_targets.proofs.SumLemmas.{amounts-are, amounts-stopped, counts, sums-are, sums-fit}
use Rattle.mz_targets.proofs.amounts.read_amounts.Goals as goal

pub returns-in_err-rows-clause-answer : goal.returns-in_err-rows-clause-answer
returns-in_err-rows-clause-answer c =
    let passed = err_from_is_err_and c.from_residual.result c.from_residual.ensures.1 in
    rw (passed.1, passed.2) (amounts-stopped c.args.units.now c.args.features.now c.args.table.now c.in_err-rows.field-0.0 c.in_err-rows.ensures.answer)

pub add_pairs-requires-clause-narrow : goal.add_pairs-requires-clause-narrow
add_pairs-requires-clause-narrow c =
    let kept : c.retain.new.self.items ≡ filter counts c.in_ok-rows.rows.items = filter_from_retain _ counts (λ p x b q h. search rules) _ _ _ c.retain.ensures.filtered in
    subst (All (λ row. row.1 < 2 ^ 32)) (sym kept) (All-filter (λ row. row.1 < 2 ^ 32) counts c.in_ok-rows.rows.items (λ k d h. (c.in_ok-rows.ensures.each k d h).narrow))

pub add_pairs-requires-clause-small : goal.add_pairs-requires-clause-small
add_pairs-requires-clause-small c =
    let kept : c.retain.new.self.items ≡ filter counts c.in_ok-rows.rows.items = filter_from_retain _ counts (λ p x b q h. search rules) _ _ _ c.retain.ensures.filtered in
    subst (All (λ row. row.2 ≤ greatest_quantity)) (sym kept) (All-filter (λ row. row.2 ≤ greatest_quantity) counts c.in_ok-rows.rows.items (λ k d h. (c.in_ok-rows.ensures.each k d h).small))

pub returns-clause-answer : goal.returns-clause-answer
returns-clause-answer c =
    let kept : c.retain.new.self.items ≡ filter counts c.in_ok-rows.rows.items = filter_from_retain _ counts (λ p x b q h. search rules) _ _ _ c.retain.ensures.filtered in
    amounts-are c.args.units.now c.args.features.now c.args.table.now c.in_ok-rows.rows.items c.in_ok-sums.sums.items c.in_ok-rows.ensures.answer
    (sums-are (length c.args.units.now) (length c.args.features.now) c.in_ok-rows.rows.items c.retain.new.self.items c.in_ok-sums.sums.items kept
    (c.in_ok-sums.ensures.sums (length c.args.units.now) (length c.args.features.now)
    (subst (All (λ row. row.0 < length c.args.units.now)) (sym kept) (All-filter (λ row. row.0 < length c.args.units.now) counts c.in_ok-rows.rows.items (λ k d h. (c.in_ok-rows.ensures.each k d h).unit_known)))
    (subst (All (λ row. row.1 < length c.args.features.now)) (sym kept) (All-filter (λ row. row.1 < length c.args.features.now) counts c.in_ok-rows.rows.items (λ k d h. (c.in_ok-rows.ensures.each k d h).feature_known)))))

pub returns-clause-fit : goal.returns-clause-fit
returns-clause-fit c =
    let kept : c.retain.new.self.items ≡ filter counts c.in_ok-rows.rows.items = filter_from_retain _ counts (λ p x b q h. search rules) _ _ _ c.retain.ensures.filtered in
    sums-fit (length c.args.units.now) (length c.args.features.now) c.in_ok-rows.rows.items c.in_ok-sums.sums.items
    (sums-are (length c.args.units.now) (length c.args.features.now) c.in_ok-rows.rows.items c.retain.new.self.items c.in_ok-sums.sums.items kept
    (c.in_ok-sums.ensures.sums (length c.args.units.now) (length c.args.features.now)
    (subst (All (λ row. row.0 < length c.args.units.now)) (sym kept) (All-filter (λ row. row.0 < length c.args.units.now) counts c.in_ok-rows.rows.items (λ k d h. (c.in_ok-rows.ensures.each k d h).unit_known)))
    (subst (All (λ row. row.1 < length c.args.features.now)) (sym kept) (All-filter (λ row. row.1 < length c.args.features.now) counts c.in_ok-rows.rows.items (λ k d h. (c.in_ok-rows.ensures.each k d h).feature_known)))))
    (λ k d h. (c.in_ok-rows.ensures.each k d h).small) c.in_ok-rows.ensures.few
    (omega (arith, c.in_ok-sums.ensures.fewer, c.retain.ensures.bound))
