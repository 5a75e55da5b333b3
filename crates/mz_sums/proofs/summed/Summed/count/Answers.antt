use Rattle.std.proofs.Common.{◌∙◌, sym}
use Rattle.mz_sums.proofs.SumLemmas.{count_of_plans}
use Rattle.mz_sums.proofs.summed.Summed.count.Goals as goal

pub returns-clause-plans : goal.returns-clause-plans
returns-clause-plans c = λ plans are.
    count_of_plans _ _ _ c.args.self.now c.self.inside.zones c.args.unit c.args.zone _ _ plans (sym c.self.view_is) c.self.invariant.zones_are (c.from.ensures ∙ c.index.ensures) are c.requires.unit_in_range c.requires.zone_in_range
