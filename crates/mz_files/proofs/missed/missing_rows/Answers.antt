use Rattle.std.proofs.Common.{◌≡◌, ◌+◌, ◌≤◌, ℕ, Bool, not, ap, ◌∙◌, arith}
use Rattle.std.specs.Int.{from_bool}
use Rattle.mz_files.specs.Missed.{row_is_met}
use Rattle.mz_files.proofs.MissedLemmas.{count_more, one-most}
use Rattle.mz_files.proofs.missed.missing_rows.Goals as goal

pub loop-row-preserved : goal.loop-row-preserved
loop-row-preserved c =
    let test : ℕ → Bool = λ row. not (row_is_met c.args.problem.now c.args.totals.now c.args.level row) in
    let one : c.from-missing.result ≡ from_bool (test c.loop-row.row) = c.from-missing.ensures ∙ ap (λ met. from_bool (not met)) c.is_row_met.ensures in
    record {
      missing = count_more c.loop-row.row test c.loop-row.missing _ c.loop-row.invariant.missing (ap (λ k. c.loop-row.missing + k) one);
      few = let most : from_bool (test c.loop-row.row) ≤ 1 = one-most (test c.loop-row.row) in omega arith;
    }
