use Rattle.std.proofs.Common.{◌≡◌, ◌<◌, ◌≤◌, ◌^◌, ◌+◌, ◌*◌, ℕ, length, get_or, set, arith, rules, subst, sym}
use Rattle.mz_bounds.specs.Pairs.{PairRow}
use Rattle.mz_bounds.proofs.OuterLemmas.{AreOuterSoFar, length-outer, outer-more, outer-none, outer-skip, outer-small}
use Rattle.mz_bounds.proofs.outer.outer_lengths.Goals as goal
use Rattle.mz_bounds.proofs.outer.outer_lengths.Goals.{then-row, else-row}

fits : (i length' number : ℕ) → i < 1000000 → length' ≤ i * 10 ^ 18 → number ≤ 10 ^ 18 → length' + number < 2 ^ 128
fits i length' number h k l = omega arith

pub loop-row-init : goal.loop-row-init
loop-row-init c = outer-none c.args.units c.args.rows.now c.in_ok-outer.outer.items (c.in_ok-outer.ensures.items_if_clones_equal (search rules))

pub index_mut-requires : goal.index_mut-requires
index_mut-requires c =
    let no_row : PairRow = (0, 0, 0) in
    let high : (get_or c.args.rows.now c.loop-row.row-index no_row).1 < c.args.units = c.requires.high c.loop-row.row-index no_row c.loop-row-test.true in
    let size : length c.loop-row.outer.items ≡ c.args.units = length-outer c.args.units c.args.rows.now c.loop-row.row-index c.loop-row.outer.items c.loop-row.invariant in
    omega (arith, c.if-row.true)

pub overflow_add-index_mut : goal.overflow_add-index_mut
overflow_add-index_mut c =
    let no_row : PairRow = (0, 0, 0) in
    let row : PairRow = get_or c.args.rows.now c.loop-row.row-index no_row in
    let high : row.1 < c.args.units = c.requires.high c.loop-row.row-index no_row c.loop-row-test.true in
    let small : get_or c.loop-row.outer.items row.0 c.index_mut.result.now ≤ c.loop-row.row-index * 10 ^ 18 = outer-small c.args.units c.args.rows.now c.loop-row.row-index c.loop-row.outer.items row.0 c.index_mut.result.now c.loop-row.invariant c.requires.small (omega arith) (omega (arith, c.if-row.true)) in
    let number : row.2 ≤ 10 ^ 18 = c.requires.small c.loop-row.row-index no_row c.loop-row-test.true in
    let v = c.index_mut.ensures.value in
    let total : c.index_mut.result.now + c.from.result < 2 ^ 128 = fits c.loop-row.row-index c.index_mut.result.now c.from.result (omega (arith, c.requires.few, c.loop-row-test.true)) (omega (arith, small, v)) (omega (arith, number, c.from.ensures)) in
    omega arith

pub loop-row-preserved : goal.loop-row-preserved
loop-row-preserved c =
    let no_row : PairRow = (0, 0, 0) in
    let high : (get_or c.args.rows.now c.loop-row.row-index no_row).1 < c.args.units = c.requires.high c.loop-row.row-index no_row c.loop-row-test.true in
    elim c.if-row.branch [
      | then-row w ↦ subst (λ outer. AreOuterSoFar c.args.units c.args.rows.now (c.loop-row.row-index + 1) outer.items) (sym w.outer-is)
          (subst (λ n. AreOuterSoFar c.args.units c.args.rows.now (c.loop-row.row-index + 1) (set c.loop-row.outer.items (get_or c.args.rows.now c.loop-row.row-index no_row).0 (w.index_mut.result.now + n))) (sym w.from.ensures)
          (outer-more c.args.units c.args.rows.now c.loop-row.row-index c.loop-row.outer.items no_row w.index_mut.result.now w.index_mut.result.now c.loop-row.invariant c.loop-row-test.true w.if-row.true (omega (arith, w.if-row.true)) w.index_mut.ensures.value))
      | else-row w ↦ subst (λ outer. AreOuterSoFar c.args.units c.args.rows.now (c.loop-row.row-index + 1) outer.items) (sym w.outer-is)
          (outer-skip c.args.units c.args.rows.now c.loop-row.row-index c.loop-row.outer.items no_row c.loop-row.invariant c.loop-row-test.true w.if-row.false)
    ]
