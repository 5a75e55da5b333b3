-- The parts of a problem that the files give.
use Rattle.mz_params.specs.declared.params.Params.{Params}
use Rattle.mz_model.specs.declared.parts.Parts.{Parts}
use Rattle.mz_project.specs.declared.region.Region.{Region}
use Rattle.mz_project.specs.Costs.{terms_of}
use Rattle.mz_project.specs.Rates.{rates_of}
use Rattle.mz_project.specs.TargetRows.{target_rows_of}

unfoldable pub parts_of : Params → Region → Parts
parts_of params region = record {
  unit_ids = region.area.units.ids;
  zone_ids = region.area.zones.ids;
  feature_ids = region.targets.features.ids;
  names = region.targets.features.names;
  available = region.area.available;
  allowed = region.allowed;
  costs = terms_of region.area;
  rates = rates_of params region;
  edges = region.boundaries.bounds.edges;
  outer = region.boundaries.bounds.outer;
  targets = target_rows_of region;
  amounts = region.targets.amounts;
  fractions = region.targets.fractions;
}
