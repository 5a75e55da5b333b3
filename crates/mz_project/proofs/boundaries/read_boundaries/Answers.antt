use Rattle.std.proofs.lemmas.Result.{err_from_is_err_and}
use Rattle.mz_project.proofs.BoundaryReadLemmas.{bounds_stop, boundaries_given, zone_bounds_stop}
use Rattle.mz_project.proofs.boundaries.read_boundaries.Goals as goal

pub returns-in_err-bounds-clause-read : goal.returns-in_err-bounds-clause-read
returns-in_err-bounds-clause-read g c =
    let p = err_from_is_err_and c.from_residual.result c.from_residual.ensures.1 in
    rw (p.1, p.2) (bounds_stop _ _ _ _ _ c.in_err-bounds.ensures.read)

pub returns-in_err-costs-clause-read : goal.returns-in_err-costs-clause-read
returns-in_err-costs-clause-read g c =
    let p = err_from_is_err_and c.from_residual-in_err-costs.result c.from_residual-in_err-costs.ensures.1 in
    rw (p.1, p.2) (zone_bounds_stop _ _ _ _ _ _ _ c.in_ok-bounds.ensures.read c.in_err-costs.ensures.read)

pub returns-clause-read : goal.returns-clause-read
returns-clause-read g c = boundaries_given _ _ _ _ _ _ _ c.in_ok-bounds.ensures.read c.in_ok-costs.ensures.read
