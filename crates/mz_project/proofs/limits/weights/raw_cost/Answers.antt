use Rattle.std.proofs.Common.{◌*◌, Fits-lit, Fits-le}
use Rattle.mz_project.proofs.RawLemmas.{part-within}
use Rattle.mz_project.proofs.limits.weights.raw_cost.Goals as goal

pub overflow_add-raw-in-loop-cost : goal.overflow_add-raw-in-loop-cost
overflow_add-raw-in-loop-cost c =
    Fits-le (part-within c.args.costs.now (c.args.unit * c.args.count) c.loop-cost.cost c.args.count c.loop-cost.raw _ c.requires.inside c.loop-cost-test.true c.loop-cost.invariant c.requires.small) (Fits-lit tt)
