use Rattle.std.proofs.Common.{rules, subst, sym}
use Rattle.mz_model.specs.Plans.{IsLegalPlan}
use Rattle.mz_sums.specs.Sums.{Sums}
use Rattle.mz_sums.proofs.SumLemmas.{kept_more, legal_zones, plans_more}
use Rattle.mz_sums.proofs.summed.Summed.add.Goals as goal

pub count_zones-requires-clause-zones_in_range : goal.count_zones-requires-clause-zones_in_range
count_zones-requires-clause-zones_in_range c =
    legal_zones c.self.inside.problem.value c.args.plan.now c.self.inside.zones c.self.invariant.valid c.self.invariant.zones_are (subst (λ (s : Sums). IsLegalPlan s.parts c.args.plan.now) (sym c.self.view_is) c.requires.legal)

pub invariant_of-self : goal.invariant_of-self
invariant_of-self c = kept_more _ _ _ _ _ _ _ c.self.invariant (search rules) c.count_zones.ensures

pub returns-clause-plans : goal.returns-clause-plans
returns-clause-plans c = λ plans are.
    sym (plans_more _ _ _ _ _ _ _ plans _ (sym c.self.view_is) c.self.invariant.units_are c.self.invariant.zones_are c.count_zones.ensures are)
