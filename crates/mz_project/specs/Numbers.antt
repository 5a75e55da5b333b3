-- The numbers of a problem in 64 bits, which are those of the files and within their limits.
use Rattle.std.specs.Prelude.{◌≡◌, false, None, Result, Ok, Err}
use Rattle.mz_params.specs.declared.params.Params.{Params}
use Rattle.mz_model.specs.declared.parts.Parts.{Parts}
use Rattle.mz_project.specs.declared.fault.ReadFault.{ReadFault}
use Rattle.mz_project.specs.declared.numbers.CostNumbers.{CostNumbers}
use Rattle.mz_project.specs.declared.numbers.IdLists.{IdLists}
use Rattle.mz_project.specs.declared.numbers.Numbers.{Numbers}
use Rattle.mz_project.specs.declared.numbers.TargetNumbers.{TargetNumbers}
use Rattle.mz_project.specs.declared.region.Region.{Region}
use Rattle.mz_project.specs.Limited.{IsFound}
use Rattle.mz_project.specs.Limits.{cost_limits, first_passed, limited_parts, target_limits}
use Rattle.mz_project.specs.Limits.{costs_are_above, rates_are_above, lengths_are_above, terms_are_above}
use Rattle.mz_project.specs.Limits.{totals_are_above, gains_are_above, levels_are_above, heavy_row}
use Rattle.mz_project.specs.Rates.{rates_of}
use Rattle.mz_project.specs.TargetRows.{target_rows_of}
use Rattle.mz_project.specs.Costs.{terms_of}
use Rattle.mz_project.specs.ReadAs.{TakenAs}

-- no quantity of costs and boundaries is above its limit
pub record AreCostsWithin (params : Params) (region : Region) : Type 0 where
  pub costs : costs_are_above region.area ≡ false
  pub rates : rates_are_above (rates_of params region) ≡ false
  pub lengths : lengths_are_above region.boundaries.bounds ≡ false
  pub terms :
      terms_are_above (rates_of params region) region.boundaries.bounds.edges region.boundaries.bounds.outer ≡ false

pub record AreCostNumbers (params : Params) (region : Region) (numbers : CostNumbers) : Type 0 where
  pub within : AreCostsWithin params region
  pub terms_are : numbers.terms ≡ terms_of region.area
  pub rates_are : numbers.rates ≡ rates_of params region
  pub edges_are : numbers.lengths.edges ≡ region.boundaries.bounds.edges
  pub outer_are : numbers.lengths.outer ≡ region.boundaries.bounds.outer

-- no quantity of amounts and target rows is
pub record AreTargetsWithin (region : Region) : Type 0 where
  pub totals : totals_are_above region.targets ≡ false
  pub gains : gains_are_above region ≡ false
  pub levels : levels_are_above region.targets ≡ false
  pub weights : heavy_row region ≡ None

pub record AreTargetNumbers (region : Region) (numbers : TargetNumbers) : Type 0 where
  pub within : AreTargetsWithin region
  pub amounts_are : numbers.amounts ≡ region.targets.amounts
  pub rows_are : numbers.rows ≡ target_rows_of region

-- the ids in the order of their places
abbrev pub id_lists_of : Region → IdLists
id_lists_of region =
    record { units = region.area.units.ids; zones = region.area.zones.ids; features = region.targets.features.ids }

pub record AreNumbers (params : Params) (region : Region) (numbers : Numbers) : Type 0 where
  pub ids_are : numbers.ids ≡ id_lists_of region
  pub costs_are : AreCostNumbers params region numbers.costs
  pub targets_are : AreTargetNumbers region numbers.targets

-- the numbers, or the fault of the first limit that is passed
abbrev pub CostsJudged : Params → Region → Result CostNumbers ReadFault → Type 0
CostsJudged params region (Ok numbers) = AreCostNumbers params region numbers
CostsJudged params region (Err fault) = IsFound (first_passed (cost_limits params region)) fault

abbrev pub TargetsJudged : Region → Result TargetNumbers ReadFault → Type 0
TargetsJudged region (Ok numbers) = AreTargetNumbers region numbers
TargetsJudged region (Err fault) = IsFound (first_passed (target_limits region)) fault

abbrev pub NumbersJudged : Params → Region → Result Numbers ReadFault → Type 0
NumbersJudged params region (Ok numbers) = AreNumbers params region numbers
NumbersJudged params region (Err fault) = TakenAs (limited_parts params region) (Err fault)

-- the parts, of what the files give and of these numbers
abbrev pub parts_with : Region → Numbers → Parts
parts_with region numbers = record {
  unit_ids = numbers.ids.units;
  zone_ids = numbers.ids.zones;
  feature_ids = numbers.ids.features;
  names = region.targets.features.names;
  available = region.area.available;
  allowed = region.allowed;
  costs = numbers.costs.terms;
  rates = numbers.costs.rates;
  edges = numbers.costs.lengths.edges;
  outer = numbers.costs.lengths.outer;
  targets = numbers.targets.rows;
  amounts = numbers.targets.amounts;
  fractions = region.targets.fractions;
}
