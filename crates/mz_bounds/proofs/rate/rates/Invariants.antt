use Rattle.std.proofs.Common.{◌≡◌, map, take}
use Rattle.mz_bounds.specs.Rates.{rate}
use Rattle.mz_bounds.proofs.rate.rates.Given as goal

abbrev pub invariant-loop-cost : goal.invariant-loop-cost
invariant-loop-cost l = l.rates.items ≡ map (rate l.modifier) (take l.cost-index l.zbc)
