use Rattle.std.proofs.Common.{refl, ◌∙◌, ap, map}
use Rattle.mz_bounds.specs.Rates.{rate}
use Rattle.mz_project.specs.Limits.{rates_are_above}
use Rattle.mz_project.proofs.LengthLemmas.{number_above, numbers_within}
use Rattle.mz_project.proofs.limits.rates.limited_rates.Goals as goal

pub returns-in_default : goal.returns-in_default
unfolding rates_are_above
returns-in_default c =
    let same = c.in_ok-rates.ensures.each ∙ ap (map (rate c.args.params.now.blm)) c.as_slice.ensures in
    (number_above _ _ (c.deref.ensures.value ∙ same) (rw c.in_default.is at c.in_ok-rates-2.ensures), refl)

pub returns : goal.returns
unfolding rates_are_above
returns c =
    let narrow = rw c.in-Some.is at c.in_ok-rates-2.ensures in
    let same = narrow.0 ∙ c.deref.ensures.value ∙ c.in_ok-rates.ensures.each
    ∙ ap (map (rate c.args.params.now.blm)) c.as_slice.ensures in
    (numbers_within _ _ same narrow.1, c.new.ensures ∙ same)
