use Rattle.std.proofs.lemmas.Result.{err_from_is_err_and}
use Rattle.mz_project.proofs.LimitLemmas.{cost_fault, target_fault}
use Rattle.mz_project.proofs.numbers.limited_numbers.Goals as goal

pub returns-in_err-costs : goal.returns-in_err-costs
returns-in_err-costs c =
    let p = err_from_is_err_and c.from_residual.result c.from_residual.ensures.1 in
    rw (p.1, p.2) (cost_fault c.args.params.now c.args.region.now _ c.in_err-costs.ensures)

pub returns-in_err-targets : goal.returns-in_err-targets
returns-in_err-targets c =
    let p = err_from_is_err_and c.from_residual-in_err-targets.result c.from_residual-in_err-targets.ensures.1 in
    rw (p.1, p.2) (target_fault c.args.params.now c.args.region.now _ c.in_ok-costs.ensures.within c.in_err-targets.ensures)
