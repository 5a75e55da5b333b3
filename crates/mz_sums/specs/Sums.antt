-- How many of several plans give a unit a zone.
use Rattle.std.specs.Prelude.{◌≡◌, ℕ, ◌+◌, ◌*◌, ◌/◌, ◌%◌, ◌≤◌, ◌==◌, Bool, cond, List, length, slice_index}
use Rattle.std.specs.List.{All, count_by}
use Rattle.mz_num.specs.Limits.{most_runs}
use Rattle.mz_num.specs.Places.{list_below}
use Rattle.mz_model.specs.declared.parts.Parts.{Parts}
use Rattle.mz_model.specs.Parts.{unit_count, zone_count}
use Rattle.mz_model.specs.Valid.{IsValid}

-- the number of plans that were added, and how many of them give each unit each zone, at unit * zones + zone
pub record Sums : Type 0 where
  pub parts : Parts
  pub added : ℕ
  pub counts : List ℕ

-- the plan gives the unit of that place its zone
abbrev pub gives : ℕ → ℕ → List ℕ → Bool
gives zones place plan = slice_index plan (place / zones) == place % zones

-- the sums of plans
abbrev pub sums_of : Parts → List (List ℕ) → Sums
sums_of parts plans = record {
  parts = parts;
  added = length plans;
  counts = list_below (unit_count parts * zone_count parts)
      (λ place. count_by (gives (zone_count parts) place) plans);
}

-- the count at a place with one plan more
abbrev pub count_with : ℕ → List ℕ → List ℕ → ℕ → ℕ
count_with zones plan counts place = slice_index counts place + cond (gives zones place plan) 1 0

-- the sums with one plan more
abbrev pub with_plan : Sums → List ℕ → Sums
with_plan sums plan = record {
  parts = sums.parts;
  added = sums.added + 1;
  counts = list_below (unit_count sums.parts * zone_count sums.parts)
      (count_with (zone_count sums.parts) plan sums.counts);
}

-- how many of the plans give the unit the zone
abbrev pub count_in : Sums → ℕ → ℕ → ℕ
count_in sums unit zone = slice_index sums.counts (unit * zone_count sums.parts + zone)

-- what the type keeps: a count for each unit in each zone, none above the number of plans, of which there are few
pub record AreSums (sums : Sums) (units zones : ℕ) : Type 0 where
  pub valid : IsValid sums.parts
  pub units_are : units ≡ unit_count sums.parts
  pub zones_are : zones ≡ zone_count sums.parts
  pub places : length sums.counts ≡ unit_count sums.parts * zone_count sums.parts
  pub most : All (λ count. count ≤ sums.added) sums.counts
  pub few : sums.added ≤ most_runs
