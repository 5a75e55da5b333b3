use Rattle.std.proofs.Common.{arith}
use Rattle.mz_project.proofs.BoundaryCostLemmas.{costs-done, costs-more}
use Rattle.mz_project.proofs.boundaries.default_boundary_costs.Goals as goal

pub loop-place-preserved : goal.loop-place-preserved
loop-place-preserved c = costs-more c.args.zones c.loop-place.place c.loop-place.costs.items _ _ c.loop-place.invariant c.boundary_cost.ensures c.in_ok-push.ensures.items

pub returns-clause-fit : goal.returns-clause-fit
returns-clause-fit c = costs-done c.args.zones c.loop-place.place c.loop-place.costs.items c.new.result c.loop-place.invariant (omega arith) c.new.ensures
