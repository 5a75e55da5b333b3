-- The files of features, amounts, contributions and zone targets, one after another.
use Rattle.std.proofs.Common.{ℕ, List, Result, Ok, Err, refl}
use Rattle.mz_shelf.specs.State.{State}
use Rattle.mz_params.specs.declared.params.Params.{Params}
use Rattle.mz_targets.specs.declared.features.FeatureList.{FeatureList}
use Rattle.mz_targets.specs.declared.zone_targets.ZoneTarget.{ZoneTarget}
use Rattle.mz_project.specs.declared.area.Area.{Area}
use Rattle.mz_project.specs.declared.fault.ReadFault.{ReadFault}
use Rattle.mz_project.specs.declared.targets.Targets.{Targets}
use Rattle.mz_project.specs.ReadAs.{IsGiven, IsStopped, ReadAs}
use Rattle.mz_project.specs.Reads.{taken}
use Rattle.mz_project.specs.Targets.{amounts_read, features_read, fractions_read, read_behind_amounts, read_behind_features, read_behind_fractions, targets_of, targets_read, zone_targets_read}
use Rattle.mz_project.proofs.ReadLemmas.{by_default, goes_on, stops}

-- behind the features
features_on : (params : Params) (area : Area) (features : FeatureList) (old one new : State) (answer : Result Targets ReadFault) → IsGiven (features_read params) old one features → ReadAs (read_behind_features params area features) one new answer → ReadAs (targets_read params area) old new answer
unfolding targets_read
features_on params area features old one new answer given later = goes_on (features_read params) (read_behind_features params area) features old one new answer given later

pub features_stop : (params : Params) (area : Area) (old new : State) (fault : ReadFault) → IsStopped (features_read params) old new fault → IsStopped (targets_read params area) old new fault
unfolding targets_read
features_stop params area old new fault stopped = stops (features_read params) (read_behind_features params area) old new fault stopped

pub amounts_stop : (params : Params) (area : Area) (features : FeatureList) (old one new : State) (fault : ReadFault) → IsGiven (features_read params) old one features → IsStopped (amounts_read params area features) one new fault
    → IsStopped (targets_read params area) old new fault
amounts_stop params area features old one new fault given stopped =
    features_on params area features old one new (Err fault) given (stops (amounts_read params area features) (read_behind_amounts params area features) one new fault stopped)

-- behind the amounts
amounts_on : (params : Params) (area : Area) (features : FeatureList) (amounts : List (ℕ × ℕ × ℕ)) (old one two new : State) (answer : Result Targets ReadFault) → IsGiven (features_read params) old one features
    → IsGiven (amounts_read params area features) one two amounts → ReadAs (read_behind_amounts params area features amounts) two new answer → ReadAs (targets_read params area) old new answer
amounts_on params area features amounts old one two new answer given given_amounts later =
    features_on params area features old one new answer given (goes_on (amounts_read params area features) (read_behind_amounts params area features) amounts one two new answer given_amounts later)

pub fractions_stop : (params : Params) (area : Area) (features : FeatureList) (amounts : List (ℕ × ℕ × ℕ)) (old one two new : State) (fault : ReadFault) → IsGiven (features_read params) old one features
    → IsGiven (amounts_read params area features) one two amounts → IsStopped (fractions_read params area features) two new fault → IsStopped (targets_read params area) old new fault
fractions_stop params area features amounts old one two new fault given given_amounts stopped =
    amounts_on params area features amounts old one two new (Err fault) given given_amounts (stops (fractions_read params area features) (read_behind_fractions params area features amounts) two new fault stopped)

-- behind the fractions
fractions_on : (params : Params) (area : Area) (features : FeatureList) (amounts : List (ℕ × ℕ × ℕ)) (fractions : List ℕ) (old one two three new : State) (answer : Result Targets ReadFault) → IsGiven (features_read params) old one features
    → IsGiven (amounts_read params area features) one two amounts → IsGiven (fractions_read params area features) two three fractions → ReadAs (read_behind_fractions params area features amounts fractions) three new answer
    → ReadAs (targets_read params area) old new answer
fractions_on params area features amounts fractions old one two three new answer given given_amounts given_fractions later =
    amounts_on params area features amounts old one two new answer given given_amounts (goes_on (fractions_read params area features) (read_behind_fractions params area features amounts) fractions two three new answer given_fractions later)

pub zone_targets_stop : (params : Params) (area : Area) (features : FeatureList) (amounts : List (ℕ × ℕ × ℕ)) (fractions : List ℕ) (old one two three new : State) (fault : ReadFault) → IsGiven (features_read params) old one features
    → IsGiven (amounts_read params area features) one two amounts → IsGiven (fractions_read params area features) two three fractions → IsStopped (zone_targets_read params area features) three new fault
    → IsStopped (targets_read params area) old new fault
zone_targets_stop params area features amounts fractions old one two three new fault given given_amounts given_fractions stopped =
    fractions_on params area features amounts fractions old one two three new (Err fault) given given_amounts given_fractions
    (stops (zone_targets_read params area features) (λ zone_targets _. taken (Ok (targets_of features amounts fractions zone_targets))) three new fault stopped)

pub targets_given : (params : Params) (area : Area) (features : FeatureList) (amounts : List (ℕ × ℕ × ℕ)) (fractions : List ℕ) (zone_targets : List ZoneTarget) (old one two three new : State) → IsGiven (features_read params) old one features
    → IsGiven (amounts_read params area features) one two amounts → IsGiven (fractions_read params area features) two three fractions → IsGiven (zone_targets_read params area features) three new zone_targets
    → IsGiven (targets_read params area) old new (targets_of features amounts fractions zone_targets)
targets_given params area features amounts fractions zone_targets old one two three new given given_amounts given_fractions given_targets =
    let whole = targets_of features amounts fractions zone_targets in
    fractions_on params area features amounts fractions old one two three new (Ok whole) given given_amounts given_fractions
    (goes_on (zone_targets_read params area features) (λ all _. taken (Ok (targets_of features amounts fractions all))) zone_targets three new new (Ok whole) given_targets (by_default whole whole new refl))
