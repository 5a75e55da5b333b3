use Rattle.std.proofs.lemmas.Result.{err_from_is_err_and}
use Rattle.mz_project.specs.Sets.{allowed_read, locks_read, zone_sets_read}
use Rattle.mz_project.proofs.ReadLemmas.{stops, goes_on}
use Rattle.mz_project.proofs.sets.read_allowed.Goals as goal

pub returns-in_err-sets-clause-read : goal.returns-in_err-sets-clause-read
unfolding allowed_read
returns-in_err-sets-clause-read g c =
    let p = err_from_is_err_and c.from_residual.result c.from_residual.ensures.1 in
    rw (p.1, p.2) (stops (zone_sets_read c.args.params.now c.args.area.now) (λ sets files. locks_read c.args.params.now c.args.area.now sets files) _ _ _ c.in_err-sets.ensures.read)

pub returns-clause-read : goal.returns-clause-read
unfolding allowed_read
returns-clause-read g c =
    goes_on (zone_sets_read c.args.params.now c.args.area.now) (λ sets files. locks_read c.args.params.now c.args.area.now sets files) c.in_ok-sets.sets _ _ _ c.locks.result c.in_ok-sets.ensures.read c.locks.ensures.read
