use Rattle.std.proofs.lemmas.Result.{err_from_is_err_and}
use Rattle.mz_project.proofs.RegionLemmas.{area_stop, allowed_stop, boundaries_stop, region_given, targets_stop}
use Rattle.mz_project.proofs.region.read_region.Goals as goal

pub returns-in_err-area-clause-read : goal.returns-in_err-area-clause-read
returns-in_err-area-clause-read g c =
    let p = err_from_is_err_and c.from_residual.result c.from_residual.ensures.1 in
    rw (p.1, p.2) (area_stop _ _ _ _ c.in_err-area.ensures.read)

pub returns-in_err-targets-clause-read : goal.returns-in_err-targets-clause-read
returns-in_err-targets-clause-read g c =
    let p = err_from_is_err_and c.from_residual-in_err-targets.result c.from_residual-in_err-targets.ensures.1 in
    rw (p.1, p.2) (targets_stop _ _ _ _ _ _ c.in_ok-area.ensures.read c.in_err-targets.ensures.read)

pub returns-in_err-allowed-clause-read : goal.returns-in_err-allowed-clause-read
returns-in_err-allowed-clause-read g c =
    let p = err_from_is_err_and c.from_residual-in_err-allowed.result c.from_residual-in_err-allowed.ensures.1 in
    rw (p.1, p.2) (allowed_stop _ _ _ _ _ _ _ _ c.in_ok-area.ensures.read c.in_ok-targets.ensures.read c.in_err-allowed.ensures.read)

pub returns-in_err-boundaries-clause-read : goal.returns-in_err-boundaries-clause-read
returns-in_err-boundaries-clause-read g c =
    let p = err_from_is_err_and c.from_residual-in_err-boundaries.result c.from_residual-in_err-boundaries.ensures.1 in
    rw (p.1, p.2) (boundaries_stop _ _ _ _ _ _ _ _ _ _ c.in_ok-area.ensures.read c.in_ok-targets.ensures.read c.in_ok-allowed.ensures.read c.in_err-boundaries.ensures.read)

pub returns-clause-read : goal.returns-clause-read
returns-clause-read g c = region_given _ _ _ _ _ _ _ _ _ _ c.in_ok-area.ensures.read c.in_ok-targets.ensures.read c.in_ok-allowed.ensures.read c.in_ok-boundaries.ensures.read
