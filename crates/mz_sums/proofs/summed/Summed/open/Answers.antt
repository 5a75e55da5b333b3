use Rattle.std.proofs.Common.{◌*◌, rules, sym}
use Rattle.mz_sums.proofs.SumLemmas.{none_added}
use Rattle.mz_sums.proofs.summed.Summed.open.Goals as goal

pub returns : goal.returns
returns c = sym (none_added c.args.problem.now c.of.result.value c.in_ok-counts.counts.items (c.units-units.result * c.zones-zones.result) c.of.ensures (search rules) (search rules))
