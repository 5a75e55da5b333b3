use Rattle.mz_cool.proofs.AdaptiveLemmas.{last_temperature-some, last_temperature-none}
use Rattle.mz_cool.proofs.adaptive.last_temperature.Goals as goal

pub returns-in-Some-clause-value : goal.returns-in-Some-clause-value
returns-in-Some-clause-value c = last_temperature-some _ _ _ c.in-Some.ensures.value c.max.ensures

pub returns-in-None-clause-value : goal.returns-in-None-clause-value
returns-in-None-clause-value c = last_temperature-none _ c.in-None.ensures.value
