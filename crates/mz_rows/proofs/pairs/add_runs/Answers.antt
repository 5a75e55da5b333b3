use Rattle.std.proofs.Common.{true, ◌≡◌, ◌<◌, ◌≤◌, ◌^◌, length, ℕ, ◌+◌, ◌-◌, ◌*◌, List, [], ◌∷◌, ◌++◌, get_or, ap, arith, sym, ◌∙◌, subst}
use Rattle.std.proofs.lemmas.List.{get_or_default}
use Rattle.mz_rows.specs.Runs.{ends_with}
use Rattle.mz_rows.proofs.RunLemmas.{AreAddedSoFar, last_is, so_far-last, so_far-new, so_far-small}
use Rattle.mz_rows.proofs.pairs.add_runs.Goals as goal
use Rattle.mz_rows.proofs.pairs.add_runs.Goals.{then-is_last, else-is_last+in_ok-push}

-- two places and a number
abbrev Pair : Type 0
Pair = ℕ × ℕ × ℕ

fits : (i length' number : ℕ) → i < 5000000 → length' ≤ i * 10 ^ 18 → number ≤ 10 ^ 18 → length' + number < 2 ^ 128
fits i length' number h k l = omega arith

pub overflow_add-index_mut : goal.overflow_add-index_mut
overflow_add-index_mut c =
    let row : Pair = get_or c.args.rows.now c.loop-row.row-index (0, 0, 0) in
    let ends : ends_with c.loop-row.sums.items row ≡ true = ap (λ (sums : List Pair). ends_with sums row) (sym c.as_slice.ensures.value) ∙ sym c.is_last.ensures ∙ c.if-is_last.true in
    let some : 0 < length c.loop-row.sums.items = (last_is c.loop-row.sums.items row c.index_mut.result.now ends).0 in
    let inside : c.len-last.result - 1 < length c.loop-row.sums.items = omega (arith, c.len-last.ensures) in
    let small : (get_or c.loop-row.sums.items (c.len-last.result - 1) c.index_mut.result.now).2 ≤ c.loop-row.row-index * 10 ^ 18 = so_far-small c.args.rows.now c.loop-row.row-index c.loop-row.sums.items (c.len-last.result - 1) c.index_mut.result.now c.loop-row.invariant c.requires.small c.loop-row-test.true inside in
    let is : c.index_mut.result.now.2 ≡ (get_or c.loop-row.sums.items (c.len-last.result - 1) c.index_mut.result.now).2 = ap (λ (sum : Pair). sum.2) c.index_mut.ensures.value in
    let number : row.2 ≤ 10 ^ 18 = c.requires.small c.loop-row.row-index (0, 0, 0) c.loop-row-test.true in
    let total : c.index_mut.result.now.2 + c.from.result < 2 ^ 128 = fits c.loop-row.row-index c.index_mut.result.now.2 c.from.result (omega (arith, c.requires.few, c.loop-row-test.true)) (omega (arith, small, is)) (omega (arith, number, c.from.ensures)) in
    omega arith

pub loop-row-preserved : goal.loop-row-preserved
loop-row-preserved c =
    let no_row : Pair = (0, 0, 0) in
    let row : Pair = get_or c.args.rows.now c.loop-row.row-index no_row in
    let high : row.1 < 2 ^ 32 = c.requires.narrow c.loop-row.row-index no_row c.loop-row-test.true in
    let is : row ≡ get_or c.args.rows.now c.loop-row.row-index row = get_or_default c.args.rows.now c.loop-row.row-index no_row row c.loop-row-test.true in
    let ends : ends_with c.loop-row.sums.items row ≡ c.is_last.result = ap (λ (sums : List Pair). ends_with sums row) (sym c.as_slice.ensures.value) ∙ sym c.is_last.ensures in
    elim c.if-is_last.branch [
      | then-is_last w ↦ (
          let some : 0 < length c.loop-row.sums.items = (last_is c.loop-row.sums.items row w.index_mut.result.now (ends ∙ w.if-is_last.true)).0 in
          let inside : w.len-last.result - 1 < length c.loop-row.sums.items = omega (arith, w.len-last.ensures) in
          let value : (d : Pair) → w.index_mut.result.now ≡ get_or c.loop-row.sums.items (w.len-last.result - 1) d = λ d. w.index_mut.ensures.value ∙ get_or_default c.loop-row.sums.items (w.len-last.result - 1) w.index_mut.result.now d inside in
          subst (λ sums. AreAddedSoFar c.args.rows.now (c.loop-row.row-index + 1) sums.items) (sym w.sums-is)
          (so_far-last c.args.rows.now c.loop-row.row-index c.loop-row.sums.items row (w.len-last.result - 1) (w.index_mut.result.now.0, w.index_mut.result.now.1, w.index_mut.result.now.2 + w.from.result) c.loop-row.invariant c.loop-row-test.true is c.requires.sorted high (ends ∙ w.if-is_last.true) (omega (arith, w.len-last.ensures))
          (λ d. ap (λ (sum : Pair). (sum.0, sum.1, sum.2 + w.from.result)) (value d) ∙ ap (λ n. ((get_or c.loop-row.sums.items (w.len-last.result - 1) d).0, (get_or c.loop-row.sums.items (w.len-last.result - 1) d).1, (get_or c.loop-row.sums.items (w.len-last.result - 1) d).2 + n)) w.from.ensures)))
      | else-is_last+in_ok-push w ↦ (
          let items : c.if-is_last.sums.items ≡ w.push.new.self.items = ap (λ sums. sums.items) w.sums-is in
          let pushed : w.push.new.self.items ≡ c.loop-row.sums.items ++ (row.0, row.1, w.from-else-is_last.result) ∷ [] = w.in_ok-push.ensures.items in
          subst (AreAddedSoFar c.args.rows.now (c.loop-row.row-index + 1)) (sym (items ∙ pushed ∙ ap (λ n. c.loop-row.sums.items ++ (row.0, row.1, n) ∷ []) w.from-else-is_last.ensures))
          (so_far-new c.args.rows.now c.loop-row.row-index c.loop-row.sums.items row c.loop-row.invariant c.loop-row-test.true is c.requires.sorted high (ends ∙ w.if-is_last.false)))
    ]
