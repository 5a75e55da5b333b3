use Rattle.std.proofs.Common.{Err}
use Rattle.std.proofs.lemmas.Result.{err_from_is_err_and}
use Rattle.mz_project.proofs.GivenFileLemmas.{each_given_file}
use Rattle.mz_project.proofs.RegionLemmas.{limits_end, memory_ends, problem_given, region_stop}
use Rattle.mz_project.proofs.project.read_project.Goals as goal

pub returns-in_err-region-clause-read : goal.returns-in_err-region-clause-read
returns-in_err-region-clause-read g c =
    let p = err_from_is_err_and c.from_residual.result c.from_residual.ensures.1 in
    rw (p.1, p.2) (region_stop _ _ _ _ c.in_err-region.ensures.read)

pub returns-in_err-parts-clause-read : goal.returns-in_err-parts-clause-read
returns-in_err-parts-clause-read g c =
    let p = err_from_is_err_and c.from_residual-in_err-parts.result c.from_residual-in_err-parts.ensures.1 in
    rw (p.1, p.2) (limits_end _ _ _ _ (Err c.in_err-parts.field-0.0) c.in_ok-region.ensures.read c.in_err-parts.ensures.taken)

pub returns-in_err-build-clause-read : goal.returns-in_err-build-clause-read
returns-in_err-build-clause-read g c =
    let p = err_from_is_err_and c.from_residual-in_err-build.result c.from_residual-in_err-build.ensures.1 in
    rw (p.1, p.2) (memory_ends _ _ _ _ c.in_ok-region.ensures.read)

pub returns-clause-read : goal.returns-clause-read
returns-clause-read g c = problem_given _ _ _ _ _ _ c.in_ok-region.ensures.read c.in_ok-parts.ensures.taken c.in_ok-build.ensures

pub returns-clause-files : goal.returns-clause-files
returns-clause-files g c =
    each_given_file _ _ _ _ (problem_given _ _ _ _ _ _ c.in_ok-region.ensures.read c.in_ok-parts.ensures.taken c.in_ok-build.ensures)
