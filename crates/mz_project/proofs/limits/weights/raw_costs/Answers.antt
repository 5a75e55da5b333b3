use Rattle.std.proofs.Common.{◌≡◌, ◌^◌, ◌≤◌, sym, subst, ap, arith, length}
use Rattle.std.specs.List.{sum}
use Rattle.mz_project.proofs.RawLemmas.{costs-within, raw-all, raw-more}
use Rattle.mz_project.proofs.limits.weights.raw_costs.Goals as goal

pub raw_cost-requires-clause-small : goal.raw_cost-requires-clause-small
raw_cost-requires-clause-small c = subst (λ n. n ≤ 10 ^ 18) (sym (ap sum c.as_slice-costs.ensures)) (costs-within c.args.area.now c.requires.costs)

pub loop-unit-preserved : goal.loop-unit-preserved
loop-unit-preserved c =
    raw-more c.args.area.now c.as_slice-costs.result.now c.loop-unit.raw.items c.push.new.self.items c.loop-unit.unit c.len.result c.raw_cost.result c.as_slice-costs.ensures c.len.ensures.len c.raw_cost.ensures c.loop-unit.invariant c.in_ok-push.ensures.items

pub returns : goal.returns
returns c =
    let all : c.loop-unit.unit ≡ length c.args.area.now.units.ids = omega arith in
    raw-all c.args.area.now c.loop-unit.raw.items c.loop-unit.unit c.loop-unit.invariant all
