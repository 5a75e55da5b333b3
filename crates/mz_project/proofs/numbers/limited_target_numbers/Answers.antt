use Rattle.std.proofs.Common.{ℕ, List}
use Rattle.std.proofs.lemmas.Result.{err_from_is_err_and}
use Rattle.mz_project.specs.declared.limits.amounts.AmountsByFeature.{AmountsByFeature}
use Rattle.mz_project.specs.AmountsByFeature.{amounts_by_feature}
use Rattle.mz_project.specs.Levels.{levels_of}
use Rattle.mz_project.proofs.LimitLemmas.{gains_end, levels_end, totals_end, weights_end}
use Rattle.mz_project.proofs.numbers.limited_target_numbers.Goals as goal

pub returns-in_err-by_feature : goal.returns-in_err-by_feature
returns-in_err-by_feature c =
    let p = err_from_is_err_and c.from_residual.result c.from_residual.ensures.1 in
    rw (p.1, p.2) (totals_end AmountsByFeature c.args.region.now (amounts_by_feature c.args.region.now.targets) _ c.in_err-by_feature.ensures)

pub returns-in_err-limited_gains : goal.returns-in_err-limited_gains
returns-in_err-limited_gains c =
    let p = err_from_is_err_and c.from_residual-in_err-limited_gains.result c.from_residual-in_err-limited_gains.ensures.1 in
    rw (p.1, p.2) (gains_end (Unit {0}) c.args.region.now tt _ c.in_ok-by_feature.ensures.0 c.in_err-limited_gains.ensures)

pub returns-in_err-levels : goal.returns-in_err-levels
returns-in_err-levels c =
    let p = err_from_is_err_and c.from_residual-in_err-levels.result c.from_residual-in_err-levels.ensures.1 in
    rw (p.1, p.2) (levels_end (List ℕ) c.args.region.now (levels_of c.args.region.now.targets) _ c.in_ok-by_feature.ensures.0 c.in_ok-limited_gains.ensures.0 c.in_err-levels.ensures)

pub returns-in_err-rows : goal.returns-in_err-rows
returns-in_err-rows c =
    let p = err_from_is_err_and c.from_residual-in_err-rows.result c.from_residual-in_err-rows.ensures.1 in
    rw (p.1, p.2) (weights_end c.args.region.now _ c.in_ok-by_feature.ensures.0 c.in_ok-limited_gains.ensures.0 c.in_ok-levels.ensures.0 c.in_err-rows.ensures)
