use Rattle.std.proofs.Common.{ℕ, List, ap, map, ◌∙◌}
use Rattle.std.proofs.lemmas.List.{take_all}
use Rattle.mz_bounds.specs.Rates.{rate}
use Rattle.mz_bounds.proofs.ZoneBoundLemmas.{even-map}
use Rattle.mz_bounds.proofs.rate.rates.Goals as goal

pub returns-clause-even : goal.returns-clause-even
returns-clause-even c = λ zones size even.
    even-map (rate c.from-modifier.result) zones c.args.zbc.now c.loop-cost.rates.items
    (c.loop-cost.invariant ∙ ap (λ (costs : List ℕ). map (rate c.from-modifier.result) costs) (take_all c.loop-cost.cost-index c.args.zbc.now c.loop-cost-test.false)) size even
