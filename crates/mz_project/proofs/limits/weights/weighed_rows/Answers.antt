use Rattle.std.proofs.Common.{arith}
use Rattle.mz_project.proofs.WeightLemmas.{row-heavy, row-more, rows-all}
use Rattle.mz_project.proofs.limits.weights.weighed_rows.Goals as goal

pub returns-then-weight-from : goal.returns-then-weight-from
returns-then-weight-from c =
    row-heavy c.args.region.now c.args.levels.now c.loop-row.row _ _ c.weight-weight.result c.id-id.result c.loop-row.rows.items c.requires.levels c.loop-row-test.true c.place_of_row-feature.ensures.row c.weight-weight.ensures (omega arith) c.loop-row.invariant
    c.id-id.ensures

pub loop-row-preserved : goal.loop-row-preserved
loop-row-preserved c =
    row-more c.args.region.now c.args.levels.now c.loop-row.row _ _ c.weight-weight.result c.loop-row.rows.items _ c.requires.levels c.loop-row-test.true c.place_of_row-feature.ensures.row c.weight-weight.ensures (omega arith) c.loop-row.invariant
    c.in_ok-push.ensures.items

pub returns : goal.returns
returns c = rows-all c.args.region.now c.args.levels.now c.loop-row.row c.loop-row.rows.items c.new.result c.requires.levels c.loop-row-test.false c.loop-row.invariant c.new.ensures
