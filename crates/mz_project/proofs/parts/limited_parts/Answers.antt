use Rattle.mz_project.proofs.LimitLemmas.{parts-fit, parts-taken}
use Rattle.mz_project.proofs.parts.limited_parts.Goals as goal

pub returns-clause-taken : goal.returns-clause-taken
returns-clause-taken c = parts-taken c.args.params.now c.args.region c.in_ok-numbers.numbers _ c.in_ok-numbers.ensures c.parts_of.ensures

pub returns-clause-valid : goal.returns-clause-valid
returns-clause-valid c = parts-fit c.args.params.now c.args.region c.in_ok-numbers.numbers _ c.requires c.in_ok-numbers.ensures c.parts_of.ensures
