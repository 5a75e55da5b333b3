use Rattle.std.proofs.lemmas.Result.{err_from_is_err_and}
use Rattle.mz_project.proofs.TargetReadLemmas.{features_stop, amounts_stop, fractions_stop, targets_given, zone_targets_stop}
use Rattle.mz_project.proofs.targets.read_targets.Goals as goal

pub returns-in_err-features-clause-read : goal.returns-in_err-features-clause-read
returns-in_err-features-clause-read g c =
    let p = err_from_is_err_and c.from_residual.result c.from_residual.ensures.1 in
    rw (p.1, p.2) (features_stop _ _ _ _ _ c.in_err-features.ensures.read)

pub returns-in_err-amounts-clause-read : goal.returns-in_err-amounts-clause-read
returns-in_err-amounts-clause-read g c =
    let p = err_from_is_err_and c.from_residual-in_err-amounts.result c.from_residual-in_err-amounts.ensures.1 in
    rw (p.1, p.2) (amounts_stop _ _ _ _ _ _ _ c.in_ok-features.ensures.read c.in_err-amounts.ensures.read)

pub returns-in_err-fractions-clause-read : goal.returns-in_err-fractions-clause-read
returns-in_err-fractions-clause-read g c =
    let p = err_from_is_err_and c.from_residual-in_err-fractions.result c.from_residual-in_err-fractions.ensures.1 in
    rw (p.1, p.2) (fractions_stop _ _ _ _ _ _ _ _ _ c.in_ok-features.ensures.read c.in_ok-amounts.ensures.read c.in_err-fractions.ensures.read)

pub returns-in_err-zone_targets-clause-read : goal.returns-in_err-zone_targets-clause-read
returns-in_err-zone_targets-clause-read g c =
    let p = err_from_is_err_and c.from_residual-in_err-zone_targets.result c.from_residual-in_err-zone_targets.ensures.1 in
    rw (p.1, p.2) (zone_targets_stop _ _ _ _ _ _ _ _ _ _ _ c.in_ok-features.ensures.read c.in_ok-amounts.ensures.read c.in_ok-fractions.ensures.read c.in_err-zone_targets.ensures.read)

pub returns-clause-read : goal.returns-clause-read
returns-clause-read g c = targets_given _ _ _ _ _ _ _ _ _ _ _ c.in_ok-features.ensures.read c.in_ok-amounts.ensures.read c.in_ok-fractions.ensures.read c.in_ok-zone_targets.ensures.read
