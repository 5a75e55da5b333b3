-- What boundaries count at.
use Rattle.std.specs.Prelude.{ℕ, ◌*◌, List, length, map, slice_index}
use Rattle.mz_params.specs.declared.params.Params.{Params}
use Rattle.mz_bounds.specs.Rates.{rate}
use Rattle.mz_num.specs.Limits.{million}
use Rattle.mz_num.specs.Round.{round}
use Rattle.mz_num.specs.Places.{greatest_below}
use Rattle.mz_project.specs.declared.region.Region.{Region}

-- the rates of boundaries between zones: their costs times the boundary length modifier
abbrev pub rates_of : Params → Region → List ℕ
rates_of params region = map (rate params.blm) region.boundaries.costs

-- the term of a length under the greatest rate
abbrev pub greatest_term : List ℕ → ℕ → ℕ
greatest_term rates len = round (len * greatest_below (length rates) (slice_index rates)) million
