use Rattle.std.proofs.Common.{rules, ◌<◌, ap, ℕ, length, map, take, arith}
use Rattle.std.proofs.Math.ListN.{replicate}
use Rattle.std.proofs.lemmas.List.{length-replicate}
use Rattle.std.proofs.lemmas.List.Elements.{All-get_or}
use Rattle.mz_model.specs.Amounts.{holder_of}
use Rattle.mz_model.proofs.BuildLaws.{counts_with-start, holder_counts-done, holder_counts-more, length-counts_with}
use Rattle.mz_model.proofs.holders.holder_counts.Goals as goal

pub loop-row-init : goal.loop-row-init
loop-row-init c = counts_with-start (ℕ × ℕ) c.args.features c.in_ok-counts.counts.items (search rules)

pub count_one-requires : goal.count_one-requires
count_one-requires c = omega (arith, All-get_or (λ (row : ℕ × ℕ × ℕ). row.1 < c.args.features) c.args.amounts.now c.loop-row.row-index (0, 0, 0) c.loop-row-test.true c.requires, ap length c.loop-row.invariant, length-counts_with (replicate c.args.features 0) (map holder_of (take c.loop-row.row-index c.args.amounts.now)), length-replicate {A = ℕ} c.args.features 0)

pub loop-row-preserved : goal.loop-row-preserved
loop-row-preserved c = holder_counts-more c.args.features c.args.amounts.now c.loop-row.row-index c.loop-row.counts.items c.count_one.new.counts.items c.loop-row-test.true (All-get_or (λ (row : ℕ × ℕ × ℕ). row.1 < c.args.features) c.args.amounts.now c.loop-row.row-index (0, 0, 0) c.loop-row-test.true c.requires) c.loop-row.invariant c.in_ok-count_one.ensures

pub returns : goal.returns
returns c = holder_counts-done c.args.features c.args.amounts.now c.loop-row.row-index c.loop-row.counts.items c.loop-row-test.false c.loop-row.invariant
