use Rattle.std.proofs.lemmas.Result.{err_from_is_err_and}
use Rattle.mz_project.proofs.AreaLemmas.{zones_stop, costs_stop, units_stop, multipliers_stop, area_given}
use Rattle.mz_project.proofs.area.read_area.Goals as goal

pub returns-in_err-zones-clause-read : goal.returns-in_err-zones-clause-read
returns-in_err-zones-clause-read g c =
    let p = err_from_is_err_and c.from_residual.result c.from_residual.ensures.1 in
    rw (p.1, p.2) (zones_stop _ _ _ _ c.in_err-zones.ensures.read)

pub returns-in_err-costs-clause-read : goal.returns-in_err-costs-clause-read
returns-in_err-costs-clause-read g c =
    let p = err_from_is_err_and c.from_residual-in_err-costs.result c.from_residual-in_err-costs.ensures.1 in
    rw (p.1, p.2) (costs_stop _ _ _ _ _ _ _ c.in_ok-zones.ensures.read c.in_ok-available.ensures.taken c.in_err-costs.ensures.read)

pub returns-in_err-units-clause-read : goal.returns-in_err-units-clause-read
returns-in_err-units-clause-read g c =
    let p = err_from_is_err_and c.from_residual-in_err-units.result c.from_residual-in_err-units.ensures.1 in
    rw (p.1, p.2) (units_stop _ _ _ _ _ _ _ _ _ c.in_ok-zones.ensures.read c.in_ok-available.ensures.taken c.in_ok-costs.ensures.read c.in_err-units.ensures.read)

pub returns-in_err-multipliers-clause-read : goal.returns-in_err-multipliers-clause-read
returns-in_err-multipliers-clause-read g c =
    let p = err_from_is_err_and c.from_residual-in_err-multipliers.result c.from_residual-in_err-multipliers.ensures.1 in
    rw (p.1, p.2) (multipliers_stop _ _ _ _ _ _ _ _ _ _ _ c.in_ok-zones.ensures.read c.in_ok-available.ensures.taken c.in_ok-costs.ensures.read c.in_ok-units.ensures.read c.in_err-multipliers.ensures.read)

pub returns-clause-read : goal.returns-clause-read
returns-clause-read g c =
    area_given _ _ _ _ _ _ _ _ _ _ _ c.in_ok-zones.ensures.read c.in_ok-available.ensures.taken c.in_ok-costs.ensures.read c.in_ok-units.ensures.read c.in_ok-multipliers.ensures.read
