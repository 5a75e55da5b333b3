use Rattle.std.proofs.Common.{refl, ◌∙◌, arith}
use Rattle.mz_project.proofs.AmountLemmas.{amount-above, few-at, holders-are, in-holders, same_by_feature, total-above, totals-are, totals-within}
use Rattle.mz_project.proofs.limits.amounts.limited_amounts.Goals as goal

pub returns-in_default : goal.returns-in_default
returns-in_default c =
    (amount-above c.args.region.now.targets _ _ _ c.as_slice.ensures c.requires.targets.amounts.each (rw c.in_default.is at c.in_ok-amounts.ensures), refl)

pub totals_of-requires-clause-all : goal.totals_of-requires-clause-all
totals_of-requires-clause-all c =
    let narrow = rw c.in-Some.is at c.in_ok-amounts.ensures in
    let targets = c.args.region.now.targets in
    omega (arith, c.len-features.ensures.len, in-holders targets _ (holders-are targets _ _ _ (c.deref.ensures.value ∙ narrow.0 ∙ c.as_slice.ensures) c.len-features.ensures.len c.in_ok-holders.ensures))

pub totals_of-requires-clause-few : goal.totals_of-requires-clause-few
totals_of-requires-clause-few c =
    let narrow = rw c.in-Some.is at c.in_ok-amounts.ensures in
    let targets = c.args.region.now.targets in
    few-at targets _ 5000000 (holders-are targets _ _ _ (c.deref.ensures.value ∙ narrow.0 ∙ c.as_slice.ensures) c.len-features.ensures.len c.in_ok-holders.ensures) c.requires.targets.amounts.few

pub returns-in_default-2 : goal.returns-in_default-2
returns-in_default-2 c =
    let narrow = rw c.in-Some.is at c.in_ok-amounts.ensures in
    let targets = c.args.region.now.targets in
    let holders = holders-are targets _ _ _ (c.deref.ensures.value ∙ narrow.0 ∙ c.as_slice.ensures) c.len-features.ensures.len c.in_ok-holders.ensures in
    (total-above targets _ (c.deref-2.ensures.value ∙ totals-are targets _ _ _ holders c.len-features.ensures.len c.in_ok-totals.ensures) (rw c.in_default-2.is at c.in_ok-totals-2.ensures), refl)

pub returns : goal.returns
returns c =
    let narrow = rw c.in-Some.is at c.in_ok-amounts.ensures in
    let targets = c.args.region.now.targets in
    let holders = holders-are targets _ _ _ (c.deref.ensures.value ∙ narrow.0 ∙ c.as_slice.ensures) c.len-features.ensures.len c.in_ok-holders.ensures in
    let small = rw c.in-Some-2.is at c.in_ok-totals-2.ensures in
    let totals = small.0 ∙ c.deref-2.ensures.value ∙ totals-are targets _ _ _ holders c.len-features.ensures.len c.in_ok-totals.ensures in
    (totals-within targets _ totals small.1, same_by_feature targets _ _ _ (c.new.ensures ∙ narrow.0 ∙ c.as_slice.ensures) holders (c.new-2.ensures ∙ totals))
