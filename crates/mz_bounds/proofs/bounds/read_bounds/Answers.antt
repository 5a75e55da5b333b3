use Rattle.std.proofs.Common.{◌≡◌, ◌<◌, ◌≤◌, ◌^◌, List, length, ap, arith, rules, subst, sym, ◌∙◌}
use Rattle.std.specs.List.{All, filter}
use Rattle.std.proofs.lemmas.List.Elements.{filter_from_retain}
use Rattle.std.proofs.lemmas.Result.{err_from_is_err_and}
use Rattle.mz_num.specs.Limits.{greatest_quantity}
use Rattle.mz_num.specs.Places.{list_below}
use Rattle.mz_rows.specs.Pairs.{pair_sum}
use Rattle.mz_rows.proofs.AddedLaws.{All-filter}
use Rattle.mz_bounds.specs.Pairs.{PairRow}
use Rattle.mz_bounds.proofs.FitLemmas.{bounds-are, bounds-fit, bounds-stopped, counts, edges-are}
use Rattle.mz_bounds.proofs.bounds.read_bounds.Goals as goal

pub returns-in_err-rows-clause-answer : goal.returns-in_err-rows-clause-answer
returns-in_err-rows-clause-answer c =
    let passed = err_from_is_err_and c.from_residual.result c.from_residual.ensures.1 in
    rw (passed.1, passed.2) (bounds-stopped c.args.units.now c.args.table.now c.in_err-rows.field-0.0 c.in_err-rows.ensures.answer)

pub add_pairs-requires-clause-narrow : goal.add_pairs-requires-clause-narrow
add_pairs-requires-clause-narrow c =
    let kept : c.retain.new.self.items ≡ filter counts c.in_ok-rows.rows.items = filter_from_retain _ counts (λ p x b q h. search rules) _ _ _ c.retain.ensures.filtered in
    let within : c.len.result < 2 ^ 32 = omega arith in
    subst (All (λ row. row.1 < 2 ^ 32)) (sym kept) (All-filter (λ row. row.1 < 2 ^ 32) counts c.in_ok-rows.rows.items (λ k d h. let below = c.in_ok-rows.ensures.high k d h in omega (arith, below, within, c.len.ensures.len)))

pub add_pairs-requires-clause-small : goal.add_pairs-requires-clause-small
add_pairs-requires-clause-small c =
    let kept : c.retain.new.self.items ≡ filter counts c.in_ok-rows.rows.items = filter_from_retain _ counts (λ p x b q h. search rules) _ _ _ c.retain.ensures.filtered in
    subst (All (λ row. row.2 ≤ greatest_quantity)) (sym kept) (All-filter (λ row. row.2 ≤ greatest_quantity) counts c.in_ok-rows.rows.items c.in_ok-rows.ensures.small)

pub returns-clause-answer : goal.returns-clause-answer
returns-clause-answer c =
    let kept : c.retain.new.self.items ≡ filter counts c.in_ok-rows.rows.items = filter_from_retain _ counts (λ p x b q h. search rules) _ _ _ c.retain.ensures.filtered in
    let low : All (λ row. row.0 < length c.args.units.now) c.in_ok-rows.rows.items = λ k d h. (let le = c.in_ok-rows.ensures.low k d h in let below = c.in_ok-rows.ensures.high k d h in omega (arith, le, below)) in
    bounds-are c.args.units.now c.args.table.now c.in_ok-rows.rows.items (record { edges = c.new.result; outer = c.new-2.result })
    c.in_ok-rows.ensures.answer
    (c.new.ensures ∙ edges-are (length c.args.units.now) c.in_ok-rows.rows.items c.retain.new.self.items c.in_ok-edges.edges.items kept
    (c.in_ok-edges.ensures.sums (length c.args.units.now) (length c.args.units.now)
    (subst (All (λ row. row.0 < length c.args.units.now)) (sym kept) (All-filter (λ row. row.0 < length c.args.units.now) counts c.in_ok-rows.rows.items low))
    (subst (All (λ row. row.1 < length c.args.units.now)) (sym kept) (All-filter (λ row. row.1 < length c.args.units.now) counts c.in_ok-rows.rows.items c.in_ok-rows.ensures.high))))
    (c.new-2.ensures ∙ c.in_ok-outer.ensures ∙ ap (λ (rows : List PairRow). list_below c.len.result (λ unit. pair_sum rows unit unit)) c.as_slice.ensures.value ∙ ap (λ n. list_below n (λ unit. pair_sum c.in_ok-rows.rows.items unit unit)) c.len.ensures.len)

pub returns-clause-fit : goal.returns-clause-fit
returns-clause-fit c =
    let kept : c.retain.new.self.items ≡ filter counts c.in_ok-rows.rows.items = filter_from_retain _ counts (λ p x b q h. search rules) _ _ _ c.retain.ensures.filtered in
    let low : All (λ row. row.0 < length c.args.units.now) c.in_ok-rows.rows.items = λ k d h. (let le = c.in_ok-rows.ensures.low k d h in let below = c.in_ok-rows.ensures.high k d h in omega (arith, le, below)) in
    bounds-fit (length c.args.units.now) c.in_ok-rows.rows.items (record { edges = c.new.result; outer = c.new-2.result })
    c.in_ok-rows.ensures.few c.in_ok-rows.ensures.small
    (c.new.ensures ∙ edges-are (length c.args.units.now) c.in_ok-rows.rows.items c.retain.new.self.items c.in_ok-edges.edges.items kept
    (c.in_ok-edges.ensures.sums (length c.args.units.now) (length c.args.units.now)
    (subst (All (λ row. row.0 < length c.args.units.now)) (sym kept) (All-filter (λ row. row.0 < length c.args.units.now) counts c.in_ok-rows.rows.items low))
    (subst (All (λ row. row.1 < length c.args.units.now)) (sym kept) (All-filter (λ row. row.1 < length c.args.units.now) counts c.in_ok-rows.rows.items c.in_ok-rows.ensures.high))))
    (omega (arith, c.in_ok-edges.ensures.fewer, c.retain.ensures.bound, ap length c.new.ensures))
    (c.new-2.ensures ∙ c.in_ok-outer.ensures ∙ ap (λ (rows : List PairRow). list_below c.len.result (λ unit. pair_sum rows unit unit)) c.as_slice.ensures.value ∙ ap (λ n. list_below n (λ unit. pair_sum c.in_ok-rows.rows.items unit unit)) c.len.ensures.len)
