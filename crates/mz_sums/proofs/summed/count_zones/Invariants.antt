use Rattle.std.proofs.Common.{◌≡◌, ◌*◌}
use Rattle.mz_num.specs.Places.{list_below}
use Rattle.mz_sums.proofs.SumLemmas.{counted}
use Rattle.mz_sums.proofs.summed.count_zones.Given as goal

abbrev pub invariant-loop-unit : goal.invariant-loop-unit
invariant-loop-unit l = l.counts.items ≡ list_below (l.units * l.zones) (counted l.initial.counts.items l.zones l.plan l.unit)
