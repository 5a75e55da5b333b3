use Rattle.std.proofs.Common.{arith}
use Rattle.mz_delta.proofs.ReadLaws.{totals_of_plan-all, totals_of_plan-more}
use Rattle.mz_delta.proofs.reading.totals_of.Goals as goal

pub loop-row-preserved : goal.loop-row-preserved
loop-row-preserved c = totals_of_plan-more c.args.problem.now c.args.plan.now c.loop-row.totals.items c.push.new.self.items c.loop-row.row c.held.result c.loop-row.invariant c.held.ensures.held c.in_ok-push.ensures.items

pub returns : goal.returns
returns c = totals_of_plan-all c.args.problem.now c.args.plan.now c.loop-row.totals.items c.loop-row.row (omega (arith, c.targets-row-end.ensures.count)) c.loop-row.invariant
