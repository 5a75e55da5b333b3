-- What is asked of a plan: the features, what of them each unit has, what a zone holds of an amount, and the
-- zone targets.
use Rattle.std.specs.Prelude.{ℕ, List, length, [], Ok}
use Rattle.mz_rows.specs.ByZone.{AreByZone}
use Rattle.mz_targets.specs.Amounts.{AreAmounts, amounts_of}
use Rattle.mz_targets.specs.Features.{IsFeatureList, features_of}
use Rattle.mz_targets.specs.ZoneTargets.{AreZoneTargets, zone_targets_of}
use Rattle.mz_shelf.specs.State.{Files}
use Rattle.mz_params.specs.declared.params.Params.{Params}
use Rattle.mz_targets.specs.declared.features.FeatureList.{FeatureList}
use Rattle.mz_targets.specs.declared.zone_targets.ZoneTarget.{ZoneTarget}
use Rattle.mz_targets.specs.Contribs.{fractions_of}
use Rattle.mz_project.specs.declared.area.Area.{Area}
use Rattle.mz_project.specs.declared.targets.Targets.{Targets}
use Rattle.mz_project.specs.declared.fault.Which.TheVariants.{Features, Amounts, Contribs, ZoneTargets}
use Rattle.mz_project.specs.Defaults.{ones_outside}
use Rattle.mz_project.specs.Reads.{Reads, rows_or_default, taken, then_read}

-- amounts and targets of features, in units and zones of the area
pub record FitsTargets (area : Area) (targets : Targets) : Type 0 where
  pub features : IsFeatureList targets.features
  pub amounts : AreAmounts (length area.units.ids) (length targets.features.ids) targets.amounts
  pub fractions : AreByZone (length area.zones.ids) (length targets.features.ids) targets.fractions
  pub zone_targets : AreZoneTargets (length area.zones.ids) (length targets.features.ids) targets.zone_targets

-- without a file of features there are none
abbrev pub no_features : FeatureList
no_features = record { ids = []; names = []; rows = [] }

abbrev pub features_read : Params → Files → Reads FeatureList
features_read params files = rows_or_default params Features no_features features_of files

-- unit, feature and sum of amounts, by place
abbrev pub amounts_read : Params → Area → FeatureList → Files → Reads (List (ℕ × ℕ × ℕ))
amounts_read params area features files =
    rows_or_default params Amounts [] (amounts_of area.units.ids features.ids) files

-- without a file of contributions an amount counts once outside the available zone
abbrev pub fractions_read : Params → Area → FeatureList → Files → Reads (List ℕ)
fractions_read params area features files =
    rows_or_default params Contribs (ones_outside (length area.zones.ids) (length features.ids) area.available)
    (fractions_of area.zones.ids features.ids) files

abbrev pub zone_targets_read : Params → Area → FeatureList → Files → Reads (List ZoneTarget)
zone_targets_read params area features files =
    rows_or_default params ZoneTargets [] (zone_targets_of area.zones.ids features.ids) files

-- all of these, in order
abbrev pub targets_of : FeatureList → List (ℕ × ℕ × ℕ) → List ℕ → List ZoneTarget → Targets
targets_of features amounts fractions zone_targets =
    record { features = features; amounts = amounts; fractions = fractions; zone_targets = zone_targets }

abbrev pub read_behind_fractions : Params → Area → FeatureList → List (ℕ × ℕ × ℕ) → List ℕ → Files → Reads Targets
read_behind_fractions params area features amounts fractions files =
    then_read (zone_targets_read params area features files)
    (λ zone_targets. taken (Ok (targets_of features amounts fractions zone_targets)))

abbrev pub read_behind_amounts : Params → Area → FeatureList → List (ℕ × ℕ × ℕ) → Files → Reads Targets
read_behind_amounts params area features amounts files =
    then_read (fractions_read params area features files)
    (λ fractions. read_behind_fractions params area features amounts fractions files)

abbrev pub read_behind_features : Params → Area → FeatureList → Files → Reads Targets
read_behind_features params area features files =
    then_read (amounts_read params area features files)
    (λ amounts. read_behind_amounts params area features amounts files)

unfoldable pub targets_read : Params → Area → Files → Reads Targets
targets_read params area files =
    then_read (features_read params files) (λ features. read_behind_features params area features files)
